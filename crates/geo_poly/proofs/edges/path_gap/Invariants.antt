use Rattle.std.proofs.Common.{ℤ, drop}
use Rattle.geo_seg.specs.Nearer.{IsDistance}
use Rattle.geo_seg.specs.Distances.{IsGap}
use Rattle.geo_seg.specs.Inside.{path, EachEdge}
use Rattle.geo_poly.specs.OutlineEdges.{IsApart}
use Rattle.geo_poly.proofs.edges.path_gap.Given as goal

-- what is the greatest for the edges that are left, up to the best so far, is so for all
abbrev pub invariant-loop-c : goal.invariant-loop-c
invariant-loop-c l = IsDistance l.best × ((r : ℤ) → IsGap (λ d. EachEdge (λ e. IsApart e l.s d) (path l.at (drop l.c-index l.part))) l.best r → IsGap (λ d. EachEdge (λ e. IsApart e l.s d) (path l.fn.from l.part)) l.fn.most r)
