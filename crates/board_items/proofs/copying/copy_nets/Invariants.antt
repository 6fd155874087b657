use Rattle.std.proofs.Common.{◌≡◌, ◌++◌}
use Rattle.board_items.specs.BoardIterators.{nets_left}
use Rattle.board_items.proofs.copying.copy_nets.Given as goal

abbrev pub invariant-loop-net : goal.invariant-loop-net
invariant-loop-net l = nets_left l.fn.nets ≡ l.names.entries ++ nets_left l.net-iterator
