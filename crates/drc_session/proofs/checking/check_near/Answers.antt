use Rattle.std.proofs.Common.{◌∙◌, false}
use Rattle.tile_rows.proofs.AllTiles.{few_tiles}
use Rattle.drc_session.proofs.checking.check_near.Goals as goal

pub test_tiles-requires-clause-few : goal.test_tiles-requires-clause-few
test_tiles-requires-clause-few g c κs within = few_tiles c.args.near.index.now c.args.near.boxes.now false c.deref.result.now (c.deref.ensures.value ∙ c.in_ok-tiles.ensures.tiles)
