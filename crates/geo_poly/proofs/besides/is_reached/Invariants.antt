use Rattle.std.proofs.Common.{◌-◌}
use Rattle.geo_seg.specs.Points.{rational_point_of}
use Rattle.geo_poly.proofs.StepLemmas.{NoneReached, IsBehind}
use Rattle.geo_poly.proofs.besides.is_reached.Given as goal

-- none of the edges behind is within d, and their parity
abbrev pub invariant-steps : goal.invariant-steps
invariant-steps l = IsBehind (NoneReached l.s l.d) l.poly (rational_point_of l.s.a) l.all l.low l.odd

abbrev pub decreases-steps : goal.decreases-steps
decreases-steps l = l.all - l.low
