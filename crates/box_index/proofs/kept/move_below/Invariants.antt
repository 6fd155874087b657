use Rattle.std.proofs.Common.{◌≡◌, ◌≤◌, length}
use Rattle.box_index.specs.BoxSlots.{all_entries, AreFar}
use Rattle.box_index.proofs.kept.move_below.Given as goal

abbrev pub invariant-moves : goal.invariant-moves
invariant-moves l =
    (all_entries l.slots.items l.far.entries ≡ all_entries l.fn.slots.items l.fn.far.entries)
    × AreFar (length l.slots.items) l.far.entries
    × (length l.slots.items ≤ l.bound)

abbrev pub decreases-moves : goal.decreases-moves
decreases-moves l = length l.far.entries
