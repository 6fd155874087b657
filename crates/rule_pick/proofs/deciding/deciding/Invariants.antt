-- No rule from here on matches.
use Rattle.std.proofs.Common.{◌≡◌, ◌≤◌, ℕ, map, false, length, Some, slice_get}
use Rattle.std.specs.Option.{option_copied}
use Rattle.cond_lang.specs.Rules.{PlainRule, plain_rule}
use Rattle.rule_pick.specs.Deciding.{matches_rule}
use Rattle.rule_pick.proofs.deciding.deciding.Given as goal

abbrev pub invariant-loop-left : goal.invariant-loop-left
invariant-loop-left l = record {
  within : l.left ≤ length l.rules;
  none : (later : ℕ) (other : PlainRule) → l.left ≤ later → slice_get (map plain_rule l.rules) later ≡ Some other → matches_rule l.kind l.a (option_copied l.b) l.layer other ≡ false;
}

abbrev pub decreases-loop-left : goal.decreases-loop-left
decreases-loop-left l = l.left
