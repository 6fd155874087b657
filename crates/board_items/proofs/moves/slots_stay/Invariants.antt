use Rattle.std.proofs.Common.{◌≡◌, length, drop}
use Rattle.std.specs.List.{list_all}
use Rattle.board_items.specs.ItemSlots.{slot_stays}
use Rattle.board_items.proofs.moves.slots_stay.Given as goal

abbrev pub invariant-loop-place : goal.invariant-loop-place
invariant-loop-place l =
    (list_all (λ slot. slot_stays l.unit l.step.dx l.step.dy slot) l.slots ≡ list_all (λ slot. slot_stays l.unit l.step.dx l.step.dy slot) (drop l.place l.slots))
    × (l.place-end ≡ l.fn.places.end) × (length l.units ≡ length l.slots)
