use Rattle.ratsnest.specs.Forest.{IsLooked}
use Rattle.ratsnest.proofs.nearest.look_at_each.Given as goal

abbrev pub invariant-loop-i : goal.invariant-loop-i
invariant-loop-i l = IsLooked l.tree.indexed_anchors.items l.labels l.from l.own l.low l.i l.initial.best l.best
