use Rattle.std.proofs.Common.{◌∙◌, ap}
use Rattle.geo_seg.specs.Boxes.{widened}
use Rattle.box_index.proofs.Buckets.{index_of, margin_is}
use Rattle.box_index.proofs.index.TileIndex.widened.Goals as goal

pub returns : goal.returns
returns c = c.widen.ensures.wider ∙ ap (λ m. widened c.args.bounds m) (margin_is (index_of c.self.inside.reach c.self.inside.boxes) c.args.self.now c.self.view_is c.self.invariant.0)
