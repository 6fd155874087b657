use Rattle.std.proofs.Common.{refl, length, ◌≤◌, subst, List}
use Rattle.std.proofs.lemmas.List.Elements.{AllWithin-more}
use Rattle.geo_seg.proofs.Choices.{surely, surely_not}
use Rattle.one_item.specs.declared.parts.Part.{Part}
use Rattle.item_copper.proofs.Meeting.{MeetsSome, found, not_found, none_within, copper_to}
use Rattle.item_copper.proofs.Chosen.{not_false}
use Rattle.item_copper.proofs.touch.copper_meets.Goals as goal

pub returns-then-touches_some : goal.returns-then-touches_some
returns-then-touches_some c =
    surely _ refl
    (found c.args.a.now c.args.b.now c.as_slice-part-items.result.now c.as_slice.result.now c.as_slice-part-items.ensures c.as_slice.ensures c.loop-part.part-index c.part-item.result c.loop-part-test.true c.part-item.is
    (c.touches_some.ensures.0 c.if-touches_some.true))

pub loop-part-preserved : goal.loop-part-preserved
loop-part-preserved c =
    AllWithin-more (λ part. MeetsSome c.args.b.now.copper part → ⊥) c.args.a.now.copper 0 c.loop-part.part-index c.loop-part.invariant
    (not_found c.args.a.now c.args.b.now c.as_slice-part-items.result.now c.as_slice.result.now c.as_slice-part-items.ensures c.as_slice.ensures c.loop-part.part-index c.part-item.result c.loop-part-test.true c.part-item.is
    (λ m. not_false _ c.if-touches_some.false (c.touches_some.ensures.1 m)))

pub returns : goal.returns
returns c =
    surely_not _ refl
    (λ m. none_within (MeetsSome c.args.b.now.copper) c.args.a.now.copper c.loop-part.part-index
    (let P : List Part → Type 0 = λ ps. length ps ≤ c.loop-part.part-index in subst P c.as_slice-part-items.ensures c.loop-part-test.false) c.loop-part.invariant (copper_to c.args.a.now c.args.b.now m))
