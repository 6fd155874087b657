use Rattle.std.proofs.Common.{◌≡◌}
use Rattle.sexpr_read.specs.TreeViews.{tree_of, trees_left}
use Rattle.rule_text.specs.RuleForms.{clauses}
use Rattle.rule_text.specs.RulesOf.{is_asked}
use Rattle.rule_text.specs.RuleWalk.{with_clauses}
use Rattle.rule_text.specs.ShortRuleTrees.{AllShort}
use Rattle.rule_text.specs.RuleValues.{plain_draft}
use Rattle.rule_text.proofs.reading.take_clauses.Given as goal

-- the rule so far, and what is left, give what all gives
abbrev pub invariant-loop-clause : goal.invariant-loop-clause
invariant-loop-clause l = record {
  read : with_clauses l.asked (plain_draft l.draft) (trees_left l.clause-iterator) ≡ with_clauses (is_asked (clauses (tree_of l.form))) (plain_draft l.initial.draft) (clauses (tree_of l.form));
  short : AllShort (trees_left l.clause-iterator);
}
