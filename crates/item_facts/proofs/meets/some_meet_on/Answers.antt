use Rattle.std.proofs.Common.{List, IsTrue, refl, sym, ◌∙◌}
use Rattle.std.specs.List.{Any}
use Rattle.geo_seg.proofs.Choices.{surely, surely_not}
use Rattle.geo_seg.specs.Distances.{Meet}
use Rattle.one_item.specs.declared.parts.Part.{Part}
use Rattle.copper_layers.specs.Layers.{has_layer}
use Rattle.item_copper.proofs.Chosen.{some_chosen, none_chosen, one_more, not_false}
use Rattle.item_facts.proofs.meets.some_meet_on.Goals.{else-has-via-then-has+else-meets_some, else-has-via-else-has}
use Rattle.item_facts.proofs.meets.some_meet_on.Goals as goal

abbrev MeetsSome : List Part → Part → Type 0
MeetsSome others part = Any (λ other. Meet part.shape other.shape) others

pub returns-then-meets_some : goal.returns-then-meets_some
returns-then-meets_some c =
    surely _ refl
    (record {
      some = some_chosen (MeetsSome c.args.others.now) (λ part. has_layer part.layers c.args.layer) c.args.parts.now c.loop-part.part-index c.part-item.result c.loop-part-test.true c.part-item.is
          (sym c.has.ensures ∙ c.if-has.true) (c.meets_some.ensures.0 c.if-meets_some.true);
    })

pub returns : goal.returns
returns c =
    surely_not _ refl
    (λ h. none_chosen (MeetsSome c.args.others.now) (λ part. has_layer part.layers c.args.layer) c.args.parts.now c.loop-part.part-index c.loop-part-test.false c.loop-part.invariant h.some)

pub loop-part-preserved : goal.loop-part-preserved
loop-part-preserved c =
    one_more (λ part. IsTrue (has_layer part.layers c.args.layer) → ¬ (MeetsSome c.args.others.now part)) c.args.parts.now c.loop-part.part-index c.part-item.result c.loop-part-test.true c.part-item.is
    (elim c.else-has.branch [
      | else-has-via-then-has+else-meets_some w ↦ λ t m. not_false _ w.if-meets_some.false (w.meets_some.ensures.1 m)
      | else-has-via-else-has w ↦ λ t m. not_false _ w.if-has.false (c.has.ensures ∙ t)
    ])
    c.loop-part.invariant
