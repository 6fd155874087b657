use Rattle.std.proofs.Common.{◌≡◌, ◌||◌, not}
use Rattle.std.specs.List.{list_any}
use Rattle.sexpr_read.specs.TreeViews.{tree_of, trees_left}
use Rattle.rule_text.specs.RuleForms.{clauses}
use Rattle.rule_text.specs.RulesOf.{is_constraint, is_own, is_asked}
use Rattle.rule_text.proofs.constraints.is_asked.Given as goal

-- what was seen so far, and what is left, tell what all tells
abbrev pub invariant-loop-clause : goal.invariant-loop-clause
invariant-loop-clause l = (not (l.constrained || list_any is_constraint (trees_left l.clause-iterator)) || list_any is_own (trees_left l.clause-iterator)) ≡ is_asked (clauses (tree_of l.form))
