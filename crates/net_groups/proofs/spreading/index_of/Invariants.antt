use Rattle.net_groups.proofs.Held.{HoldsTo}
use Rattle.net_groups.proofs.spreading.index_of.Given as goal

abbrev pub invariant-loop-place : goal.invariant-loop-place
invariant-loop-place l = HoldsTo l.item_boxes l.place l.index
