use Rattle.std.proofs.Common.{◌≡◌, ◌+◌, true, length}
use Rattle.board_items.specs.ItemSlots.{are_units_in, unit_items}
use Rattle.board_items.proofs.slots.next_of_unit.Given as goal

-- no slot that has passed holds an item of the unit
abbrev pub invariant-slots : goal.invariant-slots
invariant-slots l = (unit_items l.unit l.first l.fn.slots ≡ unit_items l.unit l.id l.left) × (l.id + length l.left ≡ l.first + length l.fn.slots) × (are_units_in l.left l.others ≡ true)

abbrev pub decreases-slots : goal.decreases-slots
decreases-slots l = length l.left
