use Rattle.pair_check.specs.CheckViews.{checked_by}
use Rattle.row_check.proofs.WholeRows.{one_tile_more}
use Rattle.row_check.proofs.whole.rows_of_tiles.Goals as goal

pub loop-tile-preserved : goal.loop-tile-preserved
loop-tile-preserved g c =
    one_tile_more (checked_by c.args.view.now) c.args.index.now c.requires.sound c.requires.index c.args.tiles.now c.args.changed.now c.requires.tiles c.loop-tile.tile-index c.loop-tile-test.true _ _ c.in_ok-push_tile.ensures c.loop-tile.invariant
