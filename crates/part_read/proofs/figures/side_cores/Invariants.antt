use Rattle.std.proofs.Common.{◌≡◌, ◌++◌, drop}
use Rattle.part_read.specs.Figures.{sides, sides_from, line_cores}
use Rattle.part_read.proofs.figures.side_cores.Given as goal

-- the lines so far, and those of the corners that are left, are all
abbrev pub invariant-loop-corner : goal.invariant-loop-corner
invariant-loop-corner l = l.cores.items ++ line_cores (sides_from l.first l.last (drop l.corner-index l.corner-items)) ≡ line_cores (sides l.corners)
