use Rattle.std.proofs.Common.{◌≡◌, drop}
use Rattle.footprint_read.specs.Courtyards.{segs_of}
use Rattle.part_read.specs.There.{after}
use Rattle.footprint_read.proofs.courts.segs_of.Given as goal

-- the lines so far, and those that are left, are all
abbrev pub invariant-loop-line : goal.invariant-loop-line
invariant-loop-line l = after l.segs.items (segs_of (drop l.line-index l.lines)) ≡ segs_of l.lines
