-- The tiles that hold an item of a board, where its bounds are widened by a reach.
use Rattle.std.specs.Prelude.{ℕ, ◌<◌, ℤ, ◌+ℤ◌, IsTrue, List, All, Contains}
use Rattle.std.specs.List.Sorted.{IsStrictlyIncreasing}
use Rattle.geo_seg.specs.Boxes.{widened}
use Rattle.board_items.specs.Boards.{PlainBoard}
use Rattle.box_index.specs.declared.entry.Entry.{Entry}
use Rattle.box_index.specs.Tiles.{meets_tile, tile_count}
use Rattle.board_index.specs.IndexedItems.{IsEntryOf}

-- the entry is that of an item of the board, and its bounds, in half nanometres, meet the tile where they are widened by the
-- reach, in nanometres
pub record IsMetBy (board : PlainBoard) (reach : ℤ) (entry : Entry) (tile : ℕ) : Type 0 where
  pub own : IsEntryOf board entry
  pub meets : IsTrue (meets_tile (widened entry.bounds (reach +ℤ reach)) tile)

-- an item's entry meets the tile
pub record HoldsItem (board : PlainBoard) (reach : ℤ) (tile : ℕ) : Type 0 where
  pub entry : Entry
  pub met : IsMetBy board reach entry tile

-- the numbers of all tiles that hold an item and of no others, rising
pub record AreTilesHeld (board : PlainBoard) (reach : ℤ) (tiles : List ℕ) : Type 0 where
  pub rising : IsStrictlyIncreasing tiles
  pub within : All (λ tile. tile < tile_count) tiles
  pub only : All (HoldsItem board reach) tiles
  pub all : (tile : ℕ) → tile < tile_count → HoldsItem board reach tile → Contains tiles tile
