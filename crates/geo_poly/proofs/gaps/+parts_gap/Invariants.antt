use Rattle.std.proofs.Common.{◌-◌, ◌+◌, ◌≤◌}
use Rattle.geo_seg.specs.Nearer.{IsDistance}
use Rattle.geo_seg.specs.Distances.{IsGap}
use Rattle.geo_seg.specs.Inside.{outline}
use Rattle.geo_poly.specs.OutlineEdges.{EachApart}
use Rattle.geo_poly.specs.EdgeRuns.{between}
use Rattle.geo_poly.specs.OutlineParts.{edges_of}
use Rattle.geo_poly.proofs.gaps.+parts_gap.Given as goal

abbrev pub decreases-parts_gap : goal.decreases-parts_gap
decreases-parts_gap l = l.p.size + l.q.size

-- the best so far is that of the edges behind
abbrev pub invariant-first : goal.invariant-first
invariant-first l = record {
  range : IsDistance l.best;
  low : l.p.low ≤ l.low;
  within : l.low ≤ l.p.high;
  so_far : IsGap (λ d. EachApart d (between l.p.low l.low (outline l.a)) (edges_of l.b l.q)) l.fn.most l.best;
}

abbrev pub decreases-first : goal.decreases-first
decreases-first l = l.p.high - l.low

abbrev pub invariant-second : goal.invariant-second
invariant-second l = record {
  range : IsDistance l.best;
  low : l.q.low ≤ l.low;
  within : l.low ≤ l.q.high;
  so_far : IsGap (λ d. EachApart d (edges_of l.a l.p) (between l.q.low l.low (outline l.b))) l.fn.most l.best;
}

abbrev pub decreases-second : goal.decreases-second
decreases-second l = l.q.high - l.low
