use Rattle.std.proofs.Common.{◌<◌, length, None, refl, ◌∙◌, ap, sym, arith}
use Rattle.std.specs.Option.{option_copied}
use Rattle.board_items.specs.Tags.{only_named}
use Rattle.board_items.proofs.TagRows.{as_many_shown, other_tag, not_here}
use Rattle.board_items.proofs.tags.next_named.Goals.{then-tags-place+in_default, else-tags-place}
use Rattle.board_items.proofs.tags.next_named.Goals as goal

pub loop-place-init : goal.loop-place-init
loop-place-init c = (refl, as_many_shown c.args.slots.now c.args.tags.now c.requires.tags_in)

pub loop-place-preserved : goal.loop-place-preserved
loop-place-preserved c =
    let many = as_many_shown c.args.slots.now c.args.tags.now c.requires.tags_in in
    let lt : c.loop-place.place < length c.args.slots.now = omega (arith, many, c.loop-place-test.true) in (
      c.loop-place.invariant.0 ∙ elim c.if-tags-place.branch [
        | then-tags-place+in_default w ↦ not_here c.args.name.now c.loop-place.place c.args.slots.now w.index-slots-place.result lt
            (ap (only_named c.args.name.now) (sym w.index-slots-place.is) ∙ sym w.only_named.ensures ∙ ap option_copied w.in_default.is)
        | else-tags-place w ↦ not_here c.args.name.now c.loop-place.place c.args.slots.now None lt
            (other_tag c.args.name.now c.args.tag c.loop-place.place c.args.slots.now c.args.tags.now None 0 c.requires.tags_in c.requires.tag lt w.if-tags-place.false)
      ],
      many,
    )
