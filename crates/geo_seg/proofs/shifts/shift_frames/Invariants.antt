use Rattle.geo_seg.specs.ShiftedRuns.{IsShiftedFrame}
use Rattle.geo_seg.proofs.Rewritten.{Rewritten}
use Rattle.geo_seg.proofs.shifts.shift_frames.Given as goal

abbrev pub invariant-loop-frame : goal.invariant-loop-frame
invariant-loop-frame l = Rewritten (IsShiftedFrame l.by.dx l.by.dy) l.frame-index l.fn.frames l.frames
