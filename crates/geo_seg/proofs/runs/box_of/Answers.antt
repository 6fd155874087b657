use Rattle.geo_seg.proofs.CornerBoxes.{box_fits}
use Rattle.geo_seg.proofs.runs.box_of.Goals as goal

pub returns-clause-fits : goal.returns-clause-fits
returns-clause-fits c = box_fits _ c.corner_box.result c.corner_box.ensures
