use Rattle.std.proofs.Common.{◌≡◌, drop}
use Rattle.net_class.specs.PatternRuns.{run_of}
use Rattle.net_class.proofs.patterns.run.Given as goal

abbrev pub invariant-loop-i : goal.invariant-loop-i
invariant-loop-i l = run_of l.fold (drop l.i l.pattern) l.rest ≡ run_of l.fold l.pattern l.name
