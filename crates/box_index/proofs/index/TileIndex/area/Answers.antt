use Rattle.std.proofs.Common.{◌∙◌, ap}
use Rattle.geo_seg.specs.Boxes.{widened}
use Rattle.box_index.specs.Tiles.{meets_tile}
use Rattle.box_index.proofs.Buckets.{index_of, margin_is}
use Rattle.box_index.proofs.index.TileIndex.area.Goals as goal

pub returns-clause-tiles : goal.returns-clause-tiles
returns-clause-tiles c = λ tile.
    c.around.ensures tile
    ∙ ap (λ m. meets_tile (widened c.args.bounds m) tile) (margin_is (index_of c.self.inside.reach c.self.inside.boxes) c.args.self.now c.self.view_is c.self.invariant.0)
