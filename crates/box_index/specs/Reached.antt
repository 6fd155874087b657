-- The ids of entries whose boxes meet a box.
use Rattle.std.specs.Prelude.{◌≡◌, ◌⊎◌, ℕ, List, Contains, length, take}
use Rattle.std.specs.List.Sorted.{IsStrictlyIncreasing}
use Rattle.geo_seg.specs.declared.boxes.Bounds.{Bounds}
use Rattle.geo_seg.specs.Boxes.{BoxesMeet}
use Rattle.box_index.specs.declared.entry.Entry.{Entry}

-- the box of an entry with this id meets this box
pub record IsMet (box : Bounds) (entries : List Entry) (id : ℕ) : Type 0 where
  pub entry : Entry
  pub among : Contains entries entry
  pub same : entry.id ≡ id
  pub meets : BoxesMeet box entry.bounds

-- the ids that were there are still, and those of all entries whose boxes meet this one are, and no others
pub record HasReached (box : Bounds) (entries : List Entry) (old new : List ℕ) : Type 0 where
  pub kept : (id : ℕ) → Contains old id → Contains new id
  pub met : (entry : Entry) → Contains entries entry → BoxesMeet box entry.bounds → Contains new entry.id
  pub only : (id : ℕ) → Contains new id → Contains old id ⊎ IsMet box entries id

-- the list begins with what was there
abbrev pub BeginsWith : List ℕ → List ℕ → Type 0
BeginsWith old new = take (length old) new ≡ old

-- the ids in order, each once
pub record AreSorted (old new : List ℕ) : Type 0 where
  pub rise : IsStrictlyIncreasing new
  pub kept : (id : ℕ) → Contains old id → Contains new id
  pub only : (id : ℕ) → Contains new id → Contains old id
