use Rattle.std.proofs.Common.{[], ◌∷◌}
use Rattle.geo_seg.proofs.CornerBoxes.{seg_box, box_fits}
use Rattle.geo_seg.proofs.points.Seg.bounds.Goals as goal

pub returns-clause-least : goal.returns-clause-least
returns-clause-least c = seg_box c.args.self c.grown.result (c.grown.ensures (c.args.self.a ∷ []) c.around.ensures)

pub returns-clause-fits : goal.returns-clause-fits
returns-clause-fits c = box_fits (c.args.self.a ∷ c.args.self.b ∷ []) c.grown.result (c.grown.ensures (c.args.self.a ∷ []) c.around.ensures)
