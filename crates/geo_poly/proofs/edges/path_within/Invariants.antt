use Rattle.std.proofs.Common.{◌↔◌, drop}
use Rattle.geo_seg.specs.Inside.{path, SomeEdge}
use Rattle.geo_poly.specs.OutlineEdges.{IsReached}
use Rattle.geo_poly.proofs.edges.path_within.Given as goal

-- the edges that are left decide
abbrev pub invariant-loop-c : goal.invariant-loop-c
invariant-loop-c l = SomeEdge (λ e. IsReached e l.s l.d) (path l.fn.from l.part) ↔ SomeEdge (λ e. IsReached e l.s l.d) (path l.at (drop l.c-index l.part))
