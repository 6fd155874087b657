use Rattle.std.proofs.Common.{◌≡◌, drop}
use Rattle.geo_seg.specs.Points.{rational_point_of}
use Rattle.geo_seg.specs.Inside.{path}
use Rattle.geo_seg.proofs.Parity.{differ, is_odd}
use Rattle.geo_poly.proofs.parity.path_odd.Given as goal

-- the parity so far, and that of the edges that are left
abbrev pub invariant-loop-c : goal.invariant-loop-c
invariant-loop-c l = is_odd (rational_point_of l.p) (path l.fn.from l.part) ≡ differ l.odd (is_odd (rational_point_of l.p) (path l.at (drop l.c-index l.part)))
