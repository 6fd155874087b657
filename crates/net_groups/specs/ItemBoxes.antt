-- Private words of the search: the item boxes of places, and tiles that hold them.
use Rattle.std.specs.Prelude.{◌≡◌, ◌≢◌, true, ℕ, ◌+◌, ◌*◌, ◌<◌, ◌≤◌, List, [], Some, length, slice_index, slice_index_or, All, Contains}
use Rattle.geo_seg.specs.declared.boxes.Bounds.{Bounds}
use Rattle.geo_seg.specs.Boxes.{IsPartOf, BoxesMeet, FitsShape}
use Rattle.one_item.specs.declared.item.Item.{Item}
use Rattle.board_items.specs.Boards.{PlainBoard, item_at}
use Rattle.one_item.specs.ItemParts.{parts_of}
use Rattle.one_item.specs.Extents.{AreBoundsOf}
use Rattle.net_groups.specs.Labels.{is_copper}
use Rattle.box_index.specs.declared.entry.Entry.{Entry}
use Rattle.box_index.specs.Tiles.{PlainIndex}

-- the bounds of the item of the id, if it has any
abbrev pub IsItemBox : PlainBoard → ℕ → Bounds → Type 0
IsItemBox board id item_box = (item : Item) → item_at board.items id ≡ Some item → parts_of item ≢ [] → AreBoundsOf (parts_of item) (Some item_box)

-- the item of the id has copper, and this is its item box
pub record IsCopperItemBox (board : PlainBoard) (id : ℕ) (item_box : Bounds) : Type 0 where
  pub copper : is_copper (item_at board.items id) ≡ true
  pub fits : FitsShape item_box
  pub is : IsItemBox board id item_box

-- an item box for each place, and where one place steps to another their item boxes meet
pub record AreItemBoxes (Step : ℕ → ℕ → Type 0) (ids : List ℕ) (item_boxes : List Bounds) : Type 0 where
  pub many : length item_boxes ≡ length ids
  pub fit : All (λ item_box. FitsShape item_box) item_boxes
  pub meet : (i j : ℕ) (d : Bounds) → i < length ids → j < length ids → Step (slice_index ids i) (slice_index ids j) → BoxesMeet (slice_index_or item_boxes i d) (slice_index_or item_boxes j d)

-- the boxes lie around the item boxes, each around eight of them
abbrev pub AreBoxRuns : List Bounds → List Bounds → Type 0
AreBoxRuns item_boxes runs =
    (run i : ℕ) (d : Bounds) → run < length runs → run * 8 ≤ i → i < run * 8 + 8 → i < length item_boxes → IsPartOf (slice_index_or item_boxes i d) (slice_index_or runs run d)

-- as many other item boxes, which meet where the first did
pub record AreSpread (item_boxes wide : List Bounds) : Type 0 where
  pub many : length wide ≡ length item_boxes
  pub fit : All (λ item_box. FitsShape item_box) wide
  pub meet : (i j : ℕ) (d : Bounds) → i < length item_boxes → j < length item_boxes → BoxesMeet (slice_index_or item_boxes i d) (slice_index_or item_boxes j d) → BoxesMeet (slice_index_or wide i d) (slice_index_or wide j d)

-- the entries of the index are the item boxes, and their ids are the places
pub record HoldsItemBoxes (item_boxes : List Bounds) (index : PlainIndex) : Type 0 where
  pub only : All (λ entry. entry.id < length item_boxes) index.entries
  pub each : (i : ℕ) (d : Bounds) → i < length item_boxes → Contains index.entries (record { id = i; bounds = slice_index_or item_boxes i d })

-- the entry is that of a place, with its item box
pub record IsItemBoxAt (item_boxes : List Bounds) (entry : Entry) : Type 0 where
  pub inside : entry.id < length item_boxes
  pub is : (d : Bounds) → slice_index_or item_boxes entry.id d ≡ entry.bounds
