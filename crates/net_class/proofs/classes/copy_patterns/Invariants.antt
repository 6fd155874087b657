use Rattle.std.proofs.Common.{◌≡◌, map, drop, ◌++◌}
use Rattle.net_class.specs.ClassValues.{plain_pattern}
use Rattle.net_class.proofs.classes.copy_patterns.Given as goal

abbrev pub invariant-loop-pattern : goal.invariant-loop-pattern
invariant-loop-pattern l = map plain_pattern l.patterns ≡ map plain_pattern l.list.items ++ map plain_pattern (drop l.pattern-index l.patterns)
