use Rattle.std.proofs.Common.{◌-◌, ◌+◌, ◌≤◌}
use Rattle.geo_seg.specs.Inside.{outline}
use Rattle.geo_poly.specs.OutlineEdges.{SomeReached}
use Rattle.geo_poly.specs.EdgeRuns.{between}
use Rattle.geo_poly.specs.OutlineParts.{edges_of}
use Rattle.geo_poly.proofs.runs.+parts_within.Given as goal

abbrev pub decreases-parts_within : goal.decreases-parts_within
decreases-parts_within l = l.p.size + l.q.size

-- no edge behind is within the distance
abbrev pub invariant-first : goal.invariant-first
invariant-first l = (l.p.low ≤ l.low) × (l.low ≤ l.p.high) × (¬ (SomeReached l.d (between l.p.low l.low (outline l.a)) (edges_of l.b l.q)))

abbrev pub decreases-first : goal.decreases-first
decreases-first l = l.p.high - l.low

abbrev pub invariant-second : goal.invariant-second
invariant-second l = (l.q.low ≤ l.low) × (l.low ≤ l.q.high) × (¬ (SomeReached l.d (edges_of l.a l.p) (between l.q.low l.low (outline l.b))))

abbrev pub decreases-second : goal.decreases-second
decreases-second l = l.q.high - l.low
