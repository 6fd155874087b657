-- The boxes by which the tiles are found that are rechecked.
use Rattle.std.specs.Prelude.{◌≡◌, ◌⊎◌, List, Contains}
use Rattle.geo_seg.specs.declared.boxes.Bounds.{Bounds}
use Rattle.box_index.specs.declared.entry.Entry.{Entry}
use Rattle.board_index.specs.IndexedItems.{IsEntryOf}
use Rattle.pair_check.specs.Rows.{Checked}
use Rattle.drc_state.specs.Recheck.{Differs}

-- the boxes of all that differs, as it was and as it is
pub record AreBoxesOf (old new : Checked) (boxes : List Bounds) : Type 0 where
  pub only : (box : Bounds) → Contains boxes box → (entry : Entry) × (entry.bounds ≡ box) × Differs old new entry.id × (IsEntryOf old.board entry ⊎ IsEntryOf new.board entry)
  pub all : (entry : Entry) → Differs old new entry.id → IsEntryOf old.board entry ⊎ IsEntryOf new.board entry → Contains boxes entry.bounds
