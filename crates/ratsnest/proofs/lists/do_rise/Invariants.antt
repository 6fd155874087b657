use Rattle.ratsnest.proofs.Rising.{RiseTo}
use Rattle.ratsnest.proofs.lists.do_rise.Given as goal

abbrev pub invariant-loop-place : goal.invariant-loop-place
invariant-loop-place l = RiseTo l.anchors l.place
