use Rattle.std.proofs.Common.{refl}
use Rattle.geo_seg.proofs.Choices.{surely, surely_not}
use Rattle.one_item.specs.CopperPairs.{PartsMeet}
use Rattle.item_copper.proofs.Meeting.{any_read, none_within}
use Rattle.item_copper.proofs.touch.touches_some.Goals as goal

pub returns-then-touches : goal.returns-then-touches
returns-then-touches c =
    surely _ refl (any_read (PartsMeet c.args.part.now) c.args.others.now c.loop-other.other-index c.other-item.result c.loop-other-test.true c.other-item.is (c.touches.ensures.0 c.if-touches.true))

pub returns : goal.returns
returns c = surely_not _ refl (none_within (PartsMeet c.args.part.now) c.args.others.now c.loop-other.other-index c.loop-other-test.false c.loop-other.invariant)
