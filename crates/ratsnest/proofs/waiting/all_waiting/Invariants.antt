use Rattle.ratsnest.specs.Grow.{AreFirst}
use Rattle.ratsnest.proofs.waiting.all_waiting.Given as goal

abbrev pub invariant-loop-j : goal.invariant-loop-j
invariant-loop-j l = AreFirst l.anchors l.j l.waiting.items
