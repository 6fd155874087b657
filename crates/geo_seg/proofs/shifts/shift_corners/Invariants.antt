use Rattle.geo_seg.specs.Shifts.{IsShiftedPoint}
use Rattle.geo_seg.proofs.Rewritten.{Rewritten}
use Rattle.geo_seg.proofs.shifts.shift_corners.Given as goal

abbrev pub invariant-loop-corner : goal.invariant-loop-corner
invariant-loop-corner l = Rewritten (IsShiftedPoint l.by.dx l.by.dy) l.corner-index l.fn.corners l.corners
