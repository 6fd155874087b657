use Rattle.std.proofs.Common.{◌≡◌, ℕ, ◌-◌, ◌≤◌, length}
use Rattle.box_index.specs.BoxSlots.{entries_of}
use Rattle.box_index.proofs.kept.fill_up.Given as goal

abbrev pub invariant-fill : goal.invariant-fill
invariant-fill l =
    (entries_of l.slots.items ≡ entries_of l.fn.slots.items)
    × ((bound : ℕ) → length l.fn.slots.items ≤ bound → l.count ≤ bound → length l.slots.items ≤ bound)

abbrev pub decreases-fill : goal.decreases-fill
decreases-fill l = l.count - length l.slots.items
