use Rattle.std.proofs.Common.{◌≡◌, ◌++◌, drop}
use Rattle.board_items.proofs.copying.copy_slots.Given as goal

abbrev pub invariant-loop-slot : goal.invariant-loop-slot
invariant-loop-slot l = l.slots ≡ l.list.items ++ drop l.slot-index l.slots
