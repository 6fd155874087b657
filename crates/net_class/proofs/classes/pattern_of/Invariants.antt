use Rattle.std.proofs.Common.{◌≡◌, drop, map, false}
use Rattle.std.specs.Prelude.{find}
use Rattle.net_class.specs.Wild.{matches}
use Rattle.net_class.specs.ClassValues.{plain_pattern}
use Rattle.net_class.proofs.classes.pattern_of.Given as goal

-- the first among those that are left is the first of all
abbrev pub invariant-loop-pattern : goal.invariant-loop-pattern
invariant-loop-pattern l = find (λ p. matches false p.pattern l.name) (map plain_pattern (drop l.pattern-index l.patterns)) ≡ find (λ p. matches false p.pattern l.name) (map plain_pattern l.patterns)
