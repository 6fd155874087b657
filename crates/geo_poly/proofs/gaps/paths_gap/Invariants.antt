use Rattle.std.proofs.Common.{ℤ, drop}
use Rattle.geo_seg.specs.Nearer.{IsDistance}
use Rattle.geo_seg.specs.Distances.{IsGap}
use Rattle.geo_seg.specs.Inside.{path}
use Rattle.geo_poly.specs.OutlineEdges.{EachApart}
use Rattle.geo_poly.proofs.gaps.paths_gap.Given as goal

-- what is the greatest for the edges that are left, up to the best so far, is so for all
abbrev pub invariant-loop-c : goal.invariant-loop-c
invariant-loop-c l = IsDistance l.best × ((r : ℤ) → IsGap (λ d. EachApart d (path l.at (drop l.c-index l.part)) (path l.other l.others)) l.best r → IsGap (λ d. EachApart d (path l.fn.from l.part) (path l.other l.others)) l.fn.most r)
