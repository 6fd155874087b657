use Rattle.std.proofs.Common.{arith}
use Rattle.geo_seg.specs.Shifts.{IsShiftedPoint}
use Rattle.geo_seg.proofs.Shifted.{vec_written}
use Rattle.geo_seg.proofs.shifts.shift_outline.Goals as goal

pub returns : goal.returns
returns c = vec_written (IsShiftedPoint c.args.by.dx c.args.by.dy) c.args.corners.now c.deref_mut.result.now c.shift_corners.new.corners c.deref_mut.ensures.value (omega arith) c.shift_corners.ensures
