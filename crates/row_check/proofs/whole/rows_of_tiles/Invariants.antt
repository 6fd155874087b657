use Rattle.std.proofs.Common.{take}
use Rattle.pair_check.specs.CheckViews.{checked_by}
use Rattle.row_check.specs.Whole.{AreOnceWhere, IsOfTiles}
use Rattle.row_check.proofs.whole.rows_of_tiles.Given as goal

abbrev pub invariant-loop-tile : goal.invariant-loop-tile
invariant-loop-tile g l = AreOnceWhere (IsOfTiles (checked_by l.view) l.index (take l.tile-index l.tiles) l.changed) l.rows.items
