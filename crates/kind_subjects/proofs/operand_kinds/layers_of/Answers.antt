use Rattle.std.proofs.Common.{inr}
use Rattle.kind_subjects.proofs.Unfaced.{one_part, all_parts}
use Rattle.kind_subjects.proofs.operand_kinds.layers_of.Goals as goal

pub loop-part-init : goal.loop-part-init
loop-part-init c = λ layer s. inr s

pub loop-part-preserved : goal.loop-part-preserved
loop-part-preserved c = λ layer.
    one_part layer c.args.parts.now c.loop-part.part-index c.part-item.result c.loop-part.layers c.union-layers.result c.loop-part-test.true c.part-item.is (c.union-layers.ensures.each layer) (c.loop-part.invariant layer)

pub returns : goal.returns
returns c = λ layer s. all_parts layer c.args.parts.now c.loop-part.part-index c.loop-part.layers c.loop-part-test.false (c.loop-part.invariant layer s)
