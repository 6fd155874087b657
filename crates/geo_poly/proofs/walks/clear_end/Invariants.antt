use Rattle.std.proofs.Common.{◌-◌, ◌≤◌}
use Rattle.geo_seg.specs.Inside.{outline, EachEdge}
use Rattle.geo_poly.specs.EdgeRuns.{between, LiesClear}
use Rattle.geo_poly.proofs.walks.clear_end.Given as goal

-- the edges behind the walk lie clear
abbrev pub invariant-runs : goal.invariant-runs
invariant-runs l = (l.low ≤ l.at) × (l.at ≤ l.all) × EachEdge (LiesClear l.near l.d) (between l.low l.at (outline l.poly))

abbrev pub decreases-runs : goal.decreases-runs
decreases-runs l = l.all - l.at
