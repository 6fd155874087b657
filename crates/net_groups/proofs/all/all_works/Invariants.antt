use Rattle.board_items.specs.BoardIterators.{nets_left}
use Rattle.net_groups.proofs.Gathered.{AreWorksSoFar}
use Rattle.net_groups.proofs.all.all_works.Given as goal

abbrev pub invariant-loop-net : goal.invariant-loop-net
invariant-loop-net l = AreWorksSoFar l.board (nets_left l.net-iterator) l.works.items
