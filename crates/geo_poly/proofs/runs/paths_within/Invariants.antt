use Rattle.std.proofs.Common.{◌↔◌, drop}
use Rattle.geo_seg.specs.Inside.{path}
use Rattle.geo_poly.specs.OutlineEdges.{SomeReached}
use Rattle.geo_poly.proofs.runs.paths_within.Given as goal

-- the edges that are left decide
abbrev pub invariant-loop-c : goal.invariant-loop-c
invariant-loop-c l = SomeReached l.d (path l.fn.from l.part) (path l.other l.others) ↔ SomeReached l.d (path l.at (drop l.c-index l.part)) (path l.other l.others)
