use Rattle.geo_seg.specs.Points.{rational_point_of}
use Rattle.geo_poly.proofs.StepLemmas.{step_of}
use Rattle.geo_poly.proofs.parity.short_step.Goals as goal

pub returns : goal.returns
returns c = step_of (rational_point_of c.args.p) c.before-2.result c.corners-corners.result.now c.args.poly.now c.args.low _ c.corners-corners.ensures.same c.before-2.ensures c.end-high.ensures.after c.end-high.ensures.within c.path_odd-odd.ensures
