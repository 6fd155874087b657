use Rattle.std.proofs.Common.{◌≡◌}
use Rattle.sexpr_read.specs.TreeViews.{tree_of, trees_left}
use Rattle.cond_lang.specs.Rules.{no_bans}
use Rattle.rule_text.specs.RuleForms.{clauses}
use Rattle.rule_text.specs.RuleLimits.{with_bans}
use Rattle.rule_text.proofs.bans.bans_in.Given as goal

-- the bans so far, and what is left, give what all gives
abbrev pub invariant-loop-word : goal.invariant-loop-word
invariant-loop-word l = with_bans l.bans (trees_left l.word-iterator) ≡ with_bans no_bans (clauses (tree_of l.clause))
