use Rattle.std.proofs.Common.{IsTrue, sym, ◌∙◌}
use Rattle.std.specs.List.{Any}
use Rattle.geo_seg.specs.Distances.{Meet}
use Rattle.one_item.specs.declared.parts.Part.{Part}
use Rattle.item_copper.specs.declared.side.SomeParts.{SomeParts}
use Rattle.item_copper.specs.MeasuredSides.{is_taken, parts_at}
use Rattle.item_copper.proofs.Chosen.{surely_chosen, surely_none_chosen, one_more, not_false}
use Rattle.item_copper.proofs.measured_pair.listed_meet.Goals.{else-takes-via-then-takes+else-meets_side, else-takes-via-else-takes}
use Rattle.item_copper.proofs.measured_pair.listed_meet.Goals as goal

abbrev MeetsSome : SomeParts → Part → Type 0
MeetsSome side part = Any (λ other. Meet part.shape other.shape) (parts_at side)

pub returns-then-meets_side : goal.returns-then-meets_side
returns-then-meets_side c =
    surely_chosen (MeetsSome c.args.side.now) (is_taken c.args.listed.now.layer) c.args.listed.now.parts.now c.loop-part.part-index c.part-item.result c.loop-part-test.true c.part-item.is
    (sym c.takes.ensures ∙ c.if-takes.true) (c.meets_side.ensures.0 c.if-meets_side.true)

pub returns : goal.returns
returns c = surely_none_chosen (MeetsSome c.args.side.now) (is_taken c.args.listed.now.layer) c.args.listed.now.parts.now c.loop-part.part-index c.loop-part-test.false c.loop-part.invariant

pub loop-part-preserved : goal.loop-part-preserved
loop-part-preserved c =
    one_more (λ part. IsTrue (is_taken c.args.listed.now.layer part) → ¬ (MeetsSome c.args.side.now part)) c.args.listed.now.parts.now c.loop-part.part-index c.part-item.result c.loop-part-test.true c.part-item.is
    (elim c.else-takes.branch [
      | else-takes-via-then-takes+else-meets_side w ↦ λ t m. not_false _ w.if-meets_side.false (w.meets_side.ensures.1 m)
      | else-takes-via-else-takes w ↦ λ t m. not_false _ w.if-takes.false (c.takes.ensures ∙ t)
    ])
    c.loop-part.invariant
