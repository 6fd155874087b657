use Rattle.std.proofs.Common.{◌-◌, ◌≤◌}
use Rattle.geo_seg.specs.Nearer.{IsDistance}
use Rattle.geo_seg.specs.Distances.{IsGap}
use Rattle.geo_seg.specs.Inside.{outline, EachEdge}
use Rattle.geo_poly.specs.OutlineEdges.{IsApart}
use Rattle.geo_poly.specs.EdgeRuns.{between}
use Rattle.geo_poly.proofs.gaps.outline_gap.Given as goal

-- the best so far is that of the edges behind the walk
abbrev pub invariant-runs : goal.invariant-runs
invariant-runs l = record {
  range : IsDistance l.best;
  within : l.low ≤ l.all;
  so_far : IsGap (λ d. EachEdge (λ e. IsApart e l.s d) (between 0 l.low (outline l.poly))) l.fn.most l.best;
}

abbrev pub decreases-runs : goal.decreases-runs
decreases-runs l = l.all - l.low
