use Rattle.std.proofs.Common.{◌≡◌}
use Rattle.sexpr_read.specs.TreeViews.{tree_of, trees_left}
use Rattle.rule_text.specs.RuleForms.{clauses}
use Rattle.rule_text.specs.RuleLimits.{with_limits, unlimited}
use Rattle.rule_text.specs.RuleValues.{plain_limits}
use Rattle.rule_text.proofs.lengths.limits_in.Given as goal

-- the limits so far, and what is left, give what all gives
abbrev pub invariant-loop-part : goal.invariant-loop-part
invariant-loop-part l = with_limits (plain_limits l.limits) (trees_left l.part-iterator) ≡ with_limits unlimited (clauses (tree_of l.clause))
