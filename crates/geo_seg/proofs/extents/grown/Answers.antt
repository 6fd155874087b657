use Rattle.std.proofs.Common.{[], ◌∷◌}
use Rattle.geo_seg.proofs.CornerBoxes.{union_box}
use Rattle.geo_seg.proofs.extents.grown.Goals as goal

pub returns : goal.returns
returns c = λ cs h. union_box cs (c.args.p ∷ []) c.args.bounds c.around.result c.union.result h c.around.ensures c.union.ensures.least
