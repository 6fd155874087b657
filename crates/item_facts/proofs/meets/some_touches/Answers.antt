use Rattle.std.proofs.Common.{refl}
use Rattle.geo_seg.proofs.Choices.{surely, surely_not}
use Rattle.one_item.specs.CopperPairs.{PartsMeet}
use Rattle.item_copper.proofs.Meeting.{any_read, none_within}
use Rattle.item_facts.proofs.meets.some_touches.Goals as goal

pub returns-then-touches : goal.returns-then-touches
returns-then-touches c =
    surely _ refl (any_read (λ part. PartsMeet part c.args.area.now) c.args.parts.now c.loop-part.part-index c.part-item.result c.loop-part-test.true c.part-item.is (c.touches.ensures.0 c.if-touches.true))

pub returns : goal.returns
returns c = surely_not _ refl (none_within (λ part. PartsMeet part c.args.area.now) c.args.parts.now c.loop-part.part-index c.loop-part-test.false c.loop-part.invariant)
