use Rattle.item_facts.proofs.Placed as placed
use Rattle.item_facts.proofs.meets.hole_touches.Goals as goal

pub returns-then-share_layer : goal.returns-then-share_layer
returns-then-share_layer c = placed.hole_touches c.args.hole.now c.in-Some.hole c.args.area.now c.meet.result c.in-Some.is (c.share_layer.ensures.0 c.if-share_layer.true) c.meet.ensures
