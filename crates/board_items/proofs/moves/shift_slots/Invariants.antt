use Rattle.std.proofs.Common.{◌≡◌, length}
use Rattle.geo_seg.proofs.Rewritten.{Rewritten}
use Rattle.board_items.specs.ItemSlots.{IsMovedSlot}
use Rattle.board_items.proofs.moves.shift_slots.Given as goal

abbrev pub invariant-loop-place : goal.invariant-loop-place
invariant-loop-place l =
    Rewritten (IsMovedSlot l.unit l.step.dx l.step.dy) l.place l.fn.slots l.slots × (l.place-end ≡ l.fn.places.end) × (length l.slots ≡ length l.fn.slots) × (length l.units ≡ length l.fn.slots)
