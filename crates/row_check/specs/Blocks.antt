-- Blocks of so many entries, each under one box. They are counted from the end of a list, so that each end of it has the same.
use Rattle.std.specs.Prelude.{◌≡◌, ℕ, ◌+◌, ◌*◌, false, IsTrue, List, ◌∷◌, ◌++◌, length, take, All, Some, slice_get}
use Rattle.geo_seg.specs.declared.boxes.Bounds.{Bounds}
use Rattle.geo_seg.specs.Boxes.{IsPartOf, do_boxes_meet}
use Rattle.box_index.specs.declared.entry.Entry.{Entry}
use Rattle.box_index.specs.Tiles.{PlainIndex}
use Rattle.row_check.specs.declared.blocks.Boxes.{Boxes}
use Rattle.row_check.specs.EntryWalks.{is_owned}

-- where the last k blocks of the entries and one more are left, that one lies in the box with the number k
pub record AreBlocks (size : ℕ) (boxes : List Bounds) (entries : List Entry) : Type 0 where
  pub each : (prefix end : List Entry) → entries ≡ prefix ++ end → (k : ℕ) (b : Bounds) → slice_get boxes k ≡ Some b → length end ≡ k * size + size → All (λ e. IsPartOf e.bounds b) (take size end)

-- the boxes of blocks of 4 and of 32 entries
pub record AreBoxes (boxes : Boxes) (entries : List Entry) : Type 0 where
  pub short : AreBlocks 4 boxes.short.now entries
  pub long : AreBlocks 32 boxes.long.now entries

-- where so many entries are left, they begin with a block whose box does not meet the wide one
pub record IsFar (wide : Bounds) (size : ℕ) (boxes : List Bounds) (count : ℕ) : Type 0 where
  pub k : ℕ
  pub box : Bounds
  pub stands : slice_get boxes k ≡ Some box
  pub count_is : count ≡ k * size + size
  pub far : do_boxes_meet wide box ≡ false

-- the tile answers for the first of them, if there is one
abbrev pub StartsOwned : PlainIndex → ℕ → Entry → List Entry → Type 0
StartsOwned index tile a entries = (x : Entry) (rest : List Entry) → entries ≡ x ∷ rest → IsTrue (is_owned index tile a x)
