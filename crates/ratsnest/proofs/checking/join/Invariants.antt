use Rattle.ratsnest.proofs.Joining.{IsJoined}
use Rattle.ratsnest.proofs.checking.join.Given as goal

abbrev pub invariant-loop-link : goal.invariant-loop-link
invariant-loop-link l = IsJoined l.anchors l.links l.link-index l.labels l.nest.items
