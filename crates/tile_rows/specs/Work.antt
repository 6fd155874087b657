-- What the work of tiles gives.
use Rattle.std.specs.Prelude.{ℕ, List, slice_index}
use Rattle.std.specs.List.Sorted.{IsStrictlyIncreasing}
use Rattle.pair_check.specs.PlainRow.{PlainRow}
use Rattle.pair_check.specs.CheckViews.{checked_by, deciders_of, IsWholeView}
use Rattle.row_check.specs.Asks.{AreAsksOf}
use Rattle.row_check.specs.RowsOfTile.{IsIndexOf, AreRowsOfTile}
use Rattle.tile_rows.specs.declared.work.Tiles.{Tiles}
use Rattle.tile_rows.specs.declared.work.AskedTiles.{AskedTiles}

-- the facts and the index are those of what is checked, the ids that changed rise, and what is asked is noted rightly
pub record AreReady (work : AskedTiles) : Type 0 where
  pub view : IsWholeView work.tiles.view
  pub index : IsIndexOf (checked_by work.tiles.view) work.tiles.index.now
  pub changed : IsStrictlyIncreasing work.tiles.changed.now
  pub asks : AreAsksOf (deciders_of work.tiles.view) work.asks

-- the rows of the tile, with an id that changed
abbrev pub AreRowsOf : Tiles → ℕ → List PlainRow → Type 0
AreRowsOf work tile rows = AreRowsOfTile (checked_by work.view) work.index.now tile work.changed.now rows

-- the rows of the tile of this number
abbrev pub AreRowsAt : Tiles → ℕ → List PlainRow → Type 0
AreRowsAt work number rows = AreRowsOf work (slice_index work.tiles.now number) rows
