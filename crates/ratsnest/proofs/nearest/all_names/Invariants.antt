use Rattle.std.proofs.Common.{◌≡◌, length}
use Rattle.ratsnest.specs.Forest.{AreNames}
use Rattle.ratsnest.proofs.nearest.all_names.Given as goal

abbrev pub invariant-loop-node : goal.invariant-loop-node
invariant-loop-node l = record {
  len : length l.names.items ≡ length l.tree.nodes.items;
  are : AreNames l.tree.indexed_anchors.items l.labels l.tree.nodes.items l.names.items;
}
