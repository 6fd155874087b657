use Rattle.std.proofs.Common.{◌≡◌, map, drop}
use Rattle.cond_lang.specs.Rules.{plain_constraint}
use Rattle.rule_text.specs.RuleWalk.{has_kind}
use Rattle.rule_text.proofs.constraints.has_kind.Given as goal

abbrev pub invariant-loop-constraint : goal.invariant-loop-constraint
invariant-loop-constraint l = has_kind l.kind (map plain_constraint (drop l.constraint-index l.constraints)) ≡ has_kind l.kind (map plain_constraint l.constraints)
