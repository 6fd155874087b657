use Rattle.std.proofs.Common.{◌≤◌, ◌-◌}
use Rattle.geo_seg.specs.Points.{rational_point_of}
use Rattle.geo_poly.proofs.StepLemmas.{IsOddBehind}
use Rattle.geo_poly.proofs.parity.is_enclosed.Given as goal

-- the parity of the edges behind
abbrev pub invariant-steps : goal.invariant-steps
invariant-steps l = (l.low ≤ l.all) × IsOddBehind l.poly (rational_point_of l.p) l.low l.odd

abbrev pub decreases-steps : goal.decreases-steps
decreases-steps l = l.all - l.low
