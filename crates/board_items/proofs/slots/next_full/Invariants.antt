use Rattle.std.proofs.Common.{◌≡◌, ◌+◌, length}
use Rattle.board_items.specs.ItemSlots.{present}
use Rattle.board_items.proofs.slots.next_full.Given as goal

-- the slots that have passed are empty
abbrev pub invariant-slots : goal.invariant-slots
invariant-slots l = (present l.first l.fn.slots ≡ present l.id l.left) × (l.id + length l.left ≡ l.first + length l.fn.slots)

abbrev pub decreases-slots : goal.decreases-slots
decreases-slots l = length l.left
