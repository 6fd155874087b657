-- What is looked up of the items of some ids, before an edit and after it.
use Rattle.std.specs.Prelude.{◌≡◌, ◌≢◌, ◌⊎◌, ℕ, ℤ, ◌≤ℤ◌, List, [], Contains, Option, None, Some}
use Rattle.geo_seg.specs.declared.boxes.Bounds.{Bounds}
use Rattle.one_item.specs.declared.item.Item.{Item}
use Rattle.board_items.specs.Boards.{PlainBoard, item_at}
use Rattle.one_item.specs.Extents.{AreBoundsOf}
use Rattle.one_item.specs.ItemParts.{parts_of}
use Rattle.box_index.specs.declared.entry.Entry.{Entry}
use Rattle.box_index.specs.Tiles.{PlainIndex}
use Rattle.net_class.specs.NetClasses.{PlainClasses}
use Rattle.board_index.specs.IndexedItems.{IsEntryOf, HasEntry}
use Rattle.board_edits.specs.TouchedItems.{AreEdited}
use Rattle.rule_pick.specs.declared.facts.Facts.{Facts}
use Rattle.rule_pick.specs.AllFacts.{HasFacts}
use Rattle.kept_facts.specs.FactUpdates.{AreChanged}

-- ---- boxes

-- the box of the item of the id, where there is one with bounds
pub record IsBoxAt (board : PlainBoard) (id : ℕ) (found : Option Bounds) : Type 0 where
  pub none : item_at board.items id ≡ None → found ≡ None
  pub some : (item : Item) → item_at board.items id ≡ Some item → AreBoundsOf (parts_of item) found

-- all boxes of the items of these ids, and no others
pub record AreBoxesIn (board : PlainBoard) (ids : List ℕ) (boxes : List Bounds) : Type 0 where
  pub only : (box : Bounds) → Contains boxes box → (entry : Entry) × (entry.bounds ≡ box) × Contains ids entry.id × IsEntryOf board entry
  pub all : (entry : Entry) → Contains ids entry.id → IsEntryOf board entry → Contains boxes entry.bounds

-- the entries of these ids are those of the board's items, and all others are as they were
pub record IsUpdated (board : PlainBoard) (ids : List ℕ) (old new : PlainIndex) : Type 0 where
  pub only : (entry : Entry) → Contains new.entries entry → (Contains ids entry.id × IsEntryOf board entry) ⊎ ((¬ (Contains ids entry.id)) × Contains old.entries entry)
  pub holds : (id : ℕ) (item : Item) → Contains ids id → item_at board.items id ≡ Some item → parts_of item ≢ [] → HasEntry new id item
  pub kept : (entry : Entry) → ¬ (Contains ids entry.id) → Contains old.entries entry → Contains new.entries entry

-- the edit is one of these ids, all items have their facts before it and after it, and what it changed is noted
pub record IsNotedEdit (old new : PlainBoard) (classes : PlainClasses) (ids : List ℕ) (kept now : List (Option Facts)) (changed : List ℕ) : Type 0 where
  pub edited : AreEdited old new ids
  pub had : HasFacts old classes kept
  pub has : HasFacts new classes now
  pub noted : AreChanged old new classes ids kept now changed

-- ---- nets

-- among the nets are those of all items of these ids
pub record HasNetsOf (board : PlainBoard) (ids nets : List ℕ) : Type 0 where
  pub all : (id : ℕ) (item : Item) → Contains ids id → item_at board.items id ≡ Some item → Contains nets item.net

-- ---- own clearances

-- none of the items of these ids has as much as the reach for its own clearance
pub record AsksNone (board : PlainBoard) (ids : List ℕ) (reach : ℤ) : Type 0 where
  pub none : (id : ℕ) (item : Item) → Contains ids id → item_at board.items id ≡ Some item → item.local ≢ Some reach

abbrev pub own_of : Option Item → Option ℤ
own_of None = None
own_of (Some item) = item.local

-- the own clearance of the item of the id
abbrev pub own_at : PlainBoard → ℕ → Option ℤ
own_at board id = own_of (item_at board.items id)

-- an item of these ids has it for its own clearance
pub record HasOwn (board : PlainBoard) (ids : List ℕ) (n : ℤ) : Type 0 where
  pub id : ℕ
  pub among : Contains ids id
  pub own : own_at board id ≡ Some n

-- r is n or an own clearance of these ids, and none of them is greater
pub record IsRaisedBy (board : PlainBoard) (ids : List ℕ) (n r : ℤ) : Type 0 where
  pub from : n ≤ℤ r
  pub most : (own : ℤ) → HasOwn board ids own → own ≤ℤ r
  pub one : (r ≡ n) ⊎ HasOwn board ids r
