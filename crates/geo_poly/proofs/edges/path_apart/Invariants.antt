use Rattle.std.proofs.Common.{◌↔◌, drop}
use Rattle.geo_seg.specs.Inside.{path, EachEdge}
use Rattle.geo_poly.specs.OutlineEdges.{IsApart}
use Rattle.geo_poly.proofs.edges.path_apart.Given as goal

-- the edges that are left decide
abbrev pub invariant-loop-c : goal.invariant-loop-c
invariant-loop-c l = EachEdge (λ e. IsApart e l.s l.d) (path l.fn.from l.part) ↔ EachEdge (λ e. IsApart e l.s l.d) (path l.at (drop l.c-index l.part))
