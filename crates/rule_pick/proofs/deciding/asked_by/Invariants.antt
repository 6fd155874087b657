-- The first among those that are left is the first of all.
use Rattle.std.proofs.Common.{◌≡◌, drop, map, ◌==◌}
use Rattle.std.specs.Prelude.{find}
use Rattle.cond_lang.specs.CheckKinds.{kind_number}
use Rattle.cond_lang.specs.Rules.{plain_constraint}
use Rattle.rule_pick.proofs.deciding.asked_by.Given as goal

abbrev pub invariant-loop-constraint : goal.invariant-loop-constraint
invariant-loop-constraint l = find (λ c. kind_number c.kind == kind_number l.kind) (map plain_constraint (drop l.constraint-index l.constraint-items)) ≡ find (λ c. kind_number c.kind == kind_number l.kind) (map plain_constraint l.constraint-items)
