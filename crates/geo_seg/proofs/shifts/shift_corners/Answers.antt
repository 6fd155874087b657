use Rattle.std.proofs.Common.{◌≡◌, true, sym, subst, arith}
use Rattle.geo_seg.specs.declared.points.Point.{Point}
use Rattle.geo_seg.specs.Shifts.{IsShiftedPoint, point_stays}
use Rattle.geo_seg.proofs.Rewritten.{not_yet, one_written, all_written}
use Rattle.geo_seg.proofs.Shifted.{all_at}
use Rattle.geo_seg.proofs.shifts.shift_corners.Goals as goal

pub shifted-requires : goal.shifted-requires
shifted-requires c =
    subst (λ (p : Point). point_stays c.args.by.dx c.args.by.dy p ≡ true) (sym (not_yet (IsShiftedPoint c.args.by.dx c.args.by.dy) c.loop-corner.corner-index c.args.corners.now c.loop-corner.corners c.loop-corner.invariant _))
    (all_at (point_stays c.args.by.dx c.args.by.dy) c.args.corners.now c.loop-corner.corner-index _ (omega arith) c.requires)

pub loop-corner-preserved : goal.loop-corner-preserved
loop-corner-preserved c = one_written (IsShiftedPoint c.args.by.dx c.args.by.dy) c.loop-corner.corner-index c.args.corners.now c.loop-corner.corners _ c.shifted.result c.loop-corner.invariant (omega arith) c.shifted.ensures

pub returns : goal.returns
returns c = all_written (IsShiftedPoint c.args.by.dx c.args.by.dy) c.loop-corner.corner-index c.args.corners.now c.loop-corner.corners c.loop-corner.invariant (omega arith)
