use Rattle.ratsnest.specs.Forest.{AreBestTo}
use Rattle.ratsnest.proofs.nearest.seek.Given as goal

abbrev pub invariant-loop-i : goal.invariant-loop-i
invariant-loop-i l = AreBestTo l.tree.indexed_anchors.items l.labels l.skipped l.i l.best
