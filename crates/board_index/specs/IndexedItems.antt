-- An index that holds the items of a board, each under its bounds. What has no parts has no bounds, and stands in no index.
use Rattle.std.specs.Prelude.{◌≡◌, ◌≢◌, ℕ, [], Some, Contains}
use Rattle.geo_seg.specs.declared.boxes.Bounds.{Bounds}
use Rattle.one_item.specs.declared.item.Item.{Item}
use Rattle.board_items.specs.Boards.{PlainBoard, item_at}
use Rattle.one_item.specs.ItemParts.{parts_of}
use Rattle.one_item.specs.Extents.{AreBoundsOf}
use Rattle.box_index.specs.declared.entry.Entry.{Entry}
use Rattle.box_index.specs.Tiles.{PlainIndex}

-- the entry is that of an item of the board, under its bounds
pub record IsEntryOf (board : PlainBoard) (entry : Entry) : Type 0 where
  pub item : Item
  pub stands : item_at board.items entry.id ≡ Some item
  pub own : AreBoundsOf (parts_of item) (Some entry.bounds)

-- the index has an entry of the item, under its bounds
pub record HasEntry (index : PlainIndex) (id : ℕ) (item : Item) : Type 0 where
  pub bounds : Bounds
  pub own : AreBoundsOf (parts_of item) (Some bounds)
  pub entry : Contains index.entries (record { id = id; bounds = bounds })

-- the index holds each item of the board that has bounds; it may hold more
pub record HoldsItems (board : PlainBoard) (index : PlainIndex) : Type 0 where
  pub each : (id : ℕ) (item : Item) → item_at board.items id ≡ Some item → parts_of item ≢ [] → HasEntry index id item

-- the index holds each item of the board that has bounds, and nothing else
pub record IsIndexOfItems (board : PlainBoard) (index : PlainIndex) : Type 0 where
  pub only : (entry : Entry) → Contains index.entries entry → IsEntryOf board entry
  pub holds : HoldsItems board index
