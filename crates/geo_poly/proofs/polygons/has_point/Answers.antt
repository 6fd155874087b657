use Rattle.geo_seg.proofs.Choices.{through}
use Rattle.geo_poly.proofs.Answers.{inside_code}
use Rattle.geo_poly.proofs.polygons.has_point.Goals as goal

pub returns : goal.returns
returns c = through _ c.is_reached.ensures (inside_code c.args.poly.now c.args.p)
