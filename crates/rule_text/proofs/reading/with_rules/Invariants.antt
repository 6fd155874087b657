use Rattle.std.proofs.Common.{◌≡◌, ◌≤◌, ◌+◌, length}
use Rattle.sexpr_read.specs.TreeViews.{trees_left}
use Rattle.rule_text.specs.RulesOf.{no_rules}
use Rattle.rule_text.specs.RuleWalk.{with_rules}
use Rattle.rule_text.specs.ShortRuleTrees.{AllShort}
use Rattle.rule_text.specs.RuleValues.{plain_lists}
use Rattle.rule_text.proofs.reading.with_rules.Given as goal

-- the rules so far, and what is left, give what all gives
abbrev pub invariant-loop-form : goal.invariant-loop-form
invariant-loop-form l = record {
  read : with_rules (plain_lists l.lists) (trees_left l.form-iterator) ≡ with_rules no_rules (trees_left l.fn.forms);
  short : AllShort (trees_left l.form-iterator);
  few : length l.lists.rules.items + length (trees_left l.form-iterator) ≤ 33554432;
}
