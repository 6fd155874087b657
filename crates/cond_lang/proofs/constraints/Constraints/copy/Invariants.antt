use Rattle.std.proofs.Common.{◌≡◌, map, drop, ◌++◌}
use Rattle.cond_lang.specs.Rules.{plain_constraint}
use Rattle.cond_lang.proofs.constraints.Constraints.copy.Given as goal

abbrev pub invariant-loop-constraint : goal.invariant-loop-constraint
invariant-loop-constraint l = map plain_constraint l.self ≡ map plain_constraint l.list.items ++ map plain_constraint (drop l.constraint-index l.constraint-items)
