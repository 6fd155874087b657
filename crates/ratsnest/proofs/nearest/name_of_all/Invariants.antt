use Rattle.ratsnest.specs.Forest.{IsNamed}
use Rattle.ratsnest.proofs.nearest.name_of_all.Given as goal

abbrev pub invariant-loop-i : goal.invariant-loop-i
invariant-loop-i l = IsNamed l.tree.indexed_anchors.items l.labels l.low l.i l.first
