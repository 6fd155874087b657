use Rattle.ratsnest.specs.Forest.{AreNodes}
use Rattle.ratsnest.proofs.tree.all_nodes.Given as goal

abbrev pub invariant-loop-node : goal.invariant-loop-node
invariant-loop-node l = AreNodes l.indexed_anchors l.nodes.items
