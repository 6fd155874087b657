use Rattle.std.proofs.Common.{◌≡◌, map, drop, ◌++◌}
use Rattle.cond_lang.specs.Rules.{plain_rule}
use Rattle.rule_text.proofs.rules.RuleList.copy.Given as goal

abbrev pub invariant-loop-rule : goal.invariant-loop-rule
invariant-loop-rule l = map plain_rule l.self ≡ map plain_rule l.list.items ++ map plain_rule (drop l.rule-index l.rule-items)
