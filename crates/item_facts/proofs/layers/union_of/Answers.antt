use Rattle.item_facts.proofs.OnLayers.{at_start, step, at_end}
use Rattle.item_facts.proofs.layers.union_of.Goals as goal

pub loop-part-init : goal.loop-part-init
loop-part-init c = λ layer. at_start layer c.args.parts.now

pub loop-part-preserved : goal.loop-part-preserved
loop-part-preserved c = λ layer. step layer c.args.parts.now c.loop-part.part-index c.part-item.result c.loop-part.layers c.union-layers.result c.loop-part-test.true c.part-item.is (c.union-layers.ensures.each layer) (c.loop-part.invariant layer)

pub returns : goal.returns
returns c = λ layer. at_end layer c.args.parts.now c.loop-part.part-index c.loop-part.layers c.loop-part-test.false (c.loop-part.invariant layer)
