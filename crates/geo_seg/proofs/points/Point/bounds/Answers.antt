use Rattle.geo_seg.proofs.CornerBoxes.{point_box}
use Rattle.geo_seg.proofs.points.Point.bounds.Goals as goal

pub returns-clause-least : goal.returns-clause-least
returns-clause-least c = point_box c.args.self c.around.result c.around.ensures
