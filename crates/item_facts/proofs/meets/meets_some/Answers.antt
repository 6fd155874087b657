use Rattle.std.proofs.Common.{refl}
use Rattle.geo_seg.proofs.Choices.{surely, surely_not}
use Rattle.geo_seg.specs.Distances.{Meet}
use Rattle.one_item.specs.declared.parts.Part.{Part}
use Rattle.item_copper.proofs.Meeting.{any_read, none_within}
use Rattle.item_facts.proofs.meets.meets_some.Goals as goal

pub returns-then-meet : goal.returns-then-meet
returns-then-meet c =
    surely _ refl (any_read (λ (other : Part). Meet c.args.shape.now other.shape) c.args.others.now c.loop-other.other-index c.other-item.result c.loop-other-test.true c.other-item.is (c.meet.ensures.0 c.if-meet.true))

pub returns : goal.returns
returns c = surely_not _ refl (none_within (λ (other : Part). Meet c.args.shape.now other.shape) c.args.others.now c.loop-other.other-index c.loop-other-test.false c.loop-other.invariant)
