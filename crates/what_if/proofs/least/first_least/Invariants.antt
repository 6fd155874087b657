use Rattle.std.proofs.Common.{take}
use Rattle.what_if.specs.Fewest.{IsFewest}
use Rattle.what_if.proofs.least.first_least.Given as goal

abbrev pub invariant-loop-place : goal.invariant-loop-place
invariant-loop-place l = IsFewest (take l.place l.counts) l.fewest
