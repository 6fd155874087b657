-- The areas and bodies near an item, as an index finds them.
use Rattle.std.specs.Prelude.{◌≡◌, ◌≢◌, ℕ, ◌+◌, ◌≤◌, ◌⊎◌, Bool, true, false, List, [], ◌∷◌, filter, Contains, Option, None, Some}
use Rattle.geo_seg.specs.declared.boxes.Bounds.{Bounds}
use Rattle.geo_seg.specs.Boxes.{BoxesMeet}
use Rattle.one_item.specs.declared.item.Item.{Item}
use Rattle.one_item.specs.ItemKinds.{is_mark}
use Rattle.board_items.specs.Boards.{item_at}
use Rattle.one_item.specs.ItemParts.{parts_of}
use Rattle.one_item.specs.Extents.{AreBoundsOf}
use Rattle.box_index.specs.declared.entry.Entry.{Entry}
use Rattle.box_index.specs.Tiles.{PlainIndex}
use Rattle.rule_pick.specs.FactsOf.{MeetsArea, MeetsCourtyard}

-- ---- ids

-- the ids rise along the list, from `low` on
abbrev pub DoRise : ℕ → List ℕ → Type 0
DoRise low [] = Unit {0}
DoRise low (id ∷ ids) = (low ≤ id) × DoRise (id + 1) ids

-- ---- items

abbrev is_mark_if : Option Item → Bool
is_mark_if None = false
is_mark_if (Some item) = is_mark item.what

-- whether the id is that of an area or a body
abbrev pub is_mark_of : List (ℕ × Item) → ℕ → Bool
is_mark_of items id = is_mark_if (item_at items id)

-- the other item is an area or a body, and its box meets each box of this one
pub record MayMeetItem (item other : Item) : Type 0 where
  pub mark : is_mark other.what ≡ true
  pub own : parts_of item ≢ []
  pub parts : parts_of other ≢ []
  pub boxes : (b c : Bounds) → AreBoundsOf (parts_of item) (Some b) → AreBoundsOf (parts_of other) (Some c) → BoxesMeet b c

-- the items that the test passes are the same, and it passes all that is near the item
pub record IsNearSame (old new : List (ℕ × Item)) (item : Item) (test : ℕ × Item → Bool) : Type 0 where
  pub same : filter test new ≡ filter test old
  pub passes : (entry : ℕ × Item) → Contains old entry ⊎ Contains new entry → MayMeetItem item entry.1 → test entry ≡ true

-- the index has an entry of the item, under its bounds
pub record HasMark (index : PlainIndex) (id : ℕ) (item : Item) : Type 0 where
  pub box : Bounds
  pub own : AreBoundsOf (parts_of item) (Some box)
  pub entry : Contains index.entries (record { id = id; bounds = box })

-- the index has each area and body of the board that has bounds
pub record HoldsMarks (items : List (ℕ × Item)) (index : PlainIndex) : Type 0 where
  pub each : (id : ℕ) (item : Item) → item_at items id ≡ Some item → is_mark item.what ≡ true → parts_of item ≢ [] → HasMark index id item

-- an index with the item, where that is an area or a body
pub record IsMarked (id : ℕ) (item : Item) (old new : PlainIndex) : Type 0 where
  pub kept : (e : Entry) → Contains old.entries e → Contains new.entries e
  pub only : (e : Entry) → Contains new.entries e → e.id ≢ id → Contains old.entries e
  pub has : is_mark item.what ≡ true → parts_of item ≢ [] → HasMark new id item

-- the ids rise, and among them is each area and body that the item meets
pub record AreEnough (item : Item) (items : List (ℕ × Item)) (ids : List ℕ) : Type 0 where
  pub rises : DoRise 0 ids
  pub areas : (id : ℕ) (other : Item) → item_at items id ≡ Some other → (name : List ℕ) → MeetsArea item other.what name → Contains ids id
  pub courtyards : (id : ℕ) (other : Item) → item_at items id ≡ Some other → (name : List ℕ) → MeetsCourtyard item other.what name → Contains ids id

-- ---- walks over the items

-- the items of these ids, in their order
abbrev pub entry_if : ℕ → Option Item → List (ℕ × Item) → List (ℕ × Item)
entry_if id None entries = entries
entry_if id (Some item) entries = (id, item) ∷ entries

abbrev pub picked : List (ℕ × Item) → List ℕ → List (ℕ × Item)
picked items [] = []
picked items (id ∷ ids) = entry_if id (item_at items id) (picked items ids)
