use Rattle.std.proofs.Common.{refl}
use Rattle.geo_seg.proofs.Choices.{surely, surely_not}
use Rattle.geo_seg.specs.Distances.{Meet}
use Rattle.item_copper.proofs.Meeting.{any_read, none_within}
use Rattle.item_facts.proofs.meets.some_meets.Goals as goal

pub returns-then-meet : goal.returns-then-meet
returns-then-meet c =
    surely _ refl (any_read (λ part. Meet part.shape c.args.area.now.shape) c.args.parts.now c.loop-part.part-index c.part-item.result c.loop-part-test.true c.part-item.is (c.meet.ensures.0 c.if-meet.true))

pub returns : goal.returns
returns c = surely_not _ refl (none_within (λ part. Meet part.shape c.args.area.now.shape) c.args.parts.now c.loop-part.part-index c.loop-part-test.false c.loop-part.invariant)
