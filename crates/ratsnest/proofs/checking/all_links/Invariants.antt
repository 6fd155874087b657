use Rattle.ratsnest.proofs.Pairs.{HasLinks}
use Rattle.ratsnest.proofs.checking.all_links.Given as goal

abbrev pub invariant-loop-j : goal.invariant-loop-j
invariant-loop-j l = HasLinks l.anchors l.links.items l.j 0

abbrev pub invariant-loop-i : goal.invariant-loop-i
invariant-loop-i l = HasLinks l.anchors l.links.items l.j l.i
