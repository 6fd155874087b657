-- The rows of a whole board, as they are put together: first in any order.
use Rattle.std.specs.Prelude.{◌≡◌, ◌⊎◌, ℕ, ◌<◌, true, List, map, All, Contains}
use Rattle.std.specs.List.{AllPairs}
use Rattle.std.specs.List.Sorted.{IsStrictlyIncreasing}
use Rattle.board_items.specs.Boards.{PlainBoard}
use Rattle.box_index.specs.declared.entry.Entry.{Entry}
use Rattle.box_index.specs.Tiles.{PlainIndex, is_in, tile_count}
use Rattle.cond_lang.specs.CheckKinds.{kind_number}
use Rattle.pair_check.specs.PlainRow.{PlainRow}
use Rattle.pair_check.specs.Rows.{Checked, IsRowOfTwo, IsRowOfOne, Before, AreRowsWhere}
use Rattle.row_check.specs.declared.order.Place.{Place}
use Rattle.row_check.specs.RowsOfTile.{IsAskedIn}

-- one of them comes before the other
abbrev pub StandApart : PlainRow → PlainRow → Type 0
StandApart r s = Before r s ⊎ Before s r

-- each of the rows that pass, once, and nothing else, in any order
pub record AreOnceWhere (Passes : PlainRow → Type 0) (rows : List PlainRow) : Type 0 where
  pub apart : AllPairs StandApart rows
  pub only : All Passes rows
  pub all : (row : PlainRow) → Passes row → Contains rows row

-- none stands behind one that it comes before
abbrev pub AreInOrder : List PlainRow → Type 0
AreInOrder rows = AllPairs (λ r s. ¬ (Before s r)) rows

-- where a row stands in the order
abbrev pub place_of : PlainRow → Place
place_of row = record { first = row.first; second = row.second; kind = kind_number row.kind }

-- the ids of all items
abbrev pub ids_of : PlainBoard → List ℕ
ids_of board = map (λ entry. entry.0) board.items

-- one of the tiles answers for the pair of these ids
pub record IsAskedInOne (index : PlainIndex) (tiles changed : List ℕ) (i j : ℕ) : Type 0 where
  pub tile : ℕ
  pub among : Contains tiles tile
  pub asked : IsAskedIn index tile changed i j

-- a row of two items of a tile
abbrev pub IsOfTiles : Checked → PlainIndex → List ℕ → List ℕ → PlainRow → Type 0
IsOfTiles c index tiles changed row = IsRowOfTwo c row × IsAskedInOne index tiles changed row.first row.second

-- the tiles rise, and each tile with an entry that changed is among them
pub record AreEnough (index : PlainIndex) (changed tiles : List ℕ) : Type 0 where
  pub rise : IsStrictlyIncreasing tiles
  pub all : (tile : ℕ) (entry : Entry) → tile < tile_count → Contains index.entries entry → Contains changed entry.id → is_in index tile entry ≡ true → Contains tiles tile

-- the rows of the items of these ids, each alone, in order, and no others
abbrev pub AreSingles : Checked → List ℕ → List PlainRow → Type 0
AreSingles c ids rows = AreRowsWhere (λ row. IsRowOfOne c row × Contains ids row.first) rows

-- a row of two items of a tile, one of which changed, or of a single item that did
abbrev pub IsOfChanged : Checked → PlainIndex → List ℕ → List ℕ → PlainRow → Type 0
IsOfChanged c index tiles changed row = IsOfTiles c index tiles changed row ⊎ (IsRowOfOne c row × Contains changed row.first)
