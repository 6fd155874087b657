use Rattle.std.proofs.Common.{arith}
use Rattle.geo_seg.specs.ShiftedRuns.{IsShiftedFrame}
use Rattle.geo_seg.proofs.Shifted.{vec_written}
use Rattle.geo_seg.proofs.shifts.shift_row.Goals as goal

pub returns : goal.returns
returns c = vec_written (IsShiftedFrame c.args.by.dx c.args.by.dy) c.args.frames.now c.deref_mut.result.now c.shift_frames.new.frames c.deref_mut.ensures.value (omega arith) c.shift_frames.ensures
