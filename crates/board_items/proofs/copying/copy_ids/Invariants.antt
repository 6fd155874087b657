use Rattle.std.proofs.Common.{◌≡◌, ◌++◌, drop}
use Rattle.board_items.proofs.Copies.{lists_of}
use Rattle.board_items.proofs.copying.copy_ids.Given as goal

abbrev pub invariant-loop-ids : goal.invariant-loop-ids
invariant-loop-ids l = lists_of l.of_nets ≡ lists_of l.list.items ++ lists_of (drop l.ids-index l.of_nets)
