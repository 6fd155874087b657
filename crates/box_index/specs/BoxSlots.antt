-- The boxes of an index as they are kept: in a row of slots, and those of ids far past the row as pairs by rising id. Slot k is for
-- the id k, and it is empty where the id has no box.
use Rattle.std.specs.Prelude.{ℕ, ◌+◌, ◌≤◌, List, [], ◌∷◌, ◌++◌, map, Option, None, Some, All}
use Rattle.geo_seg.specs.declared.boxes.Bounds.{Bounds}
use Rattle.box_index.specs.declared.entry.Entry.{Entry}
use Rattle.box_index.specs.declared.kept.Sides.{Sides}
use Rattle.box_index.specs.Tiles.{IsRising}

abbrev pub bounds_of : Sides → Bounds
bounds_of s = record { left = s.left; top = s.top; right = s.right; bottom = s.bottom }

abbrev pub entry_of : ℕ → Sides → Entry
entry_of id s = record { id = id; bounds = bounds_of s }

-- the entries of slots, the first of which is for the id n
unfoldable pub entries_from : ℕ → List (Option Sides) → List Entry
entries_from n [] = []
entries_from n (None ∷ slots) = entries_from (n + 1) slots
entries_from n (Some s ∷ slots) = entry_of n s ∷ entries_from (n + 1) slots

abbrev pub entries_of : List (Option Sides) → List Entry
entries_of slots = entries_from 0 slots

-- the entries of far boxes
abbrev pub far_entries : List (ℕ × Sides) → List Entry
far_entries far = map (λ (kept : ℕ × Sides). entry_of kept.0 kept.1) far

-- the entries of a row, and of the far boxes behind it
abbrev pub all_entries : List (Option Sides) → List (ℕ × Sides) → List Entry
all_entries slots far = entries_of slots ++ far_entries far

-- the ids of the boxes rise, and none is below the bound
pub record AreFar (bound : ℕ) (far : List (ℕ × Sides)) : Type 0 where
  pub rising : IsRising (far_entries far)
  pub past : All (λ e. bound ≤ e.id) (far_entries far)
