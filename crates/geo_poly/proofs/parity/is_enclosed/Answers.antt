use Rattle.std.proofs.Common.{◌≤◌, List, length, subst, sym, arith}
use Rattle.geo_seg.specs.declared.points.Point.{Point}
use Rattle.geo_seg.specs.Points.{rational_point_of}
use Rattle.geo_poly.proofs.StepLemmas.{odd_after, odd_in_all}
use Rattle.geo_poly.proofs.parity.is_enclosed.Goals as goal

pub steps-preserved : goal.steps-preserved
steps-preserved c =
    let next = c.next_step-next.result in (
      subst (λ (z : List Point). next.high ≤ length z) (sym c.corners-corners.ensures.same) c.next_step-next.ensures.within,
      odd_after c.args.poly.now (rational_point_of c.args.p) c.steps.low c.steps.odd next c.steps.invariant.1 c.next_step-next.ensures,
    )

pub returns : goal.returns
returns c =
    let cs = c.corners-corners.result.now in
    let all : length cs ≤ c.steps.low = omega arith in
    odd_in_all cs c.args.poly.now (rational_point_of c.args.p) c.steps.low c.steps.odd c.corners-corners.ensures.same all c.steps.invariant.1
