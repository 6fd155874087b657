use Rattle.std.proofs.Common.{take}
use Rattle.footprint_read.specs.Closing.{AreCounts}
use Rattle.footprint_read.proofs.closing.counts_of.Given as goal

-- the ends of the lines so far
abbrev pub invariant-loop-line : goal.invariant-loop-line
invariant-loop-line l = AreCounts (take l.line-index l.lines) l.counts
