use Rattle.std.proofs.Common.{◌≡◌, length}
use Rattle.net_class.specs.PatternRuns.{matches_an_end}
use Rattle.net_class.proofs.patterns.search.Given as goal

abbrev pub invariant-places : goal.invariant-places
invariant-places l = matches_an_end l.fold l.pattern l.rest ≡ matches_an_end l.fold l.pattern l.name

abbrev pub decreases-places : goal.decreases-places
decreases-places l = length l.rest
