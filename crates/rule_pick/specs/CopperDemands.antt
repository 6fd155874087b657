-- How much is asked of two pieces of copper at most, whatever is asked of edges.
use Rattle.std.specs.Prelude.{◌≡◌, ℤ, ◌≤ℤ◌, Bool, true, List, All, Some}
use Rattle.net_class.specs.NetClasses.{PlainMins}
use Rattle.cond_lang.specs.declared.kind.Kind.{Kind}
use Rattle.cond_lang.specs.Rules.{PlainConstraint, PlainRule}
use Rattle.rule_pick.specs.declared.facts.Facts.{Facts}
use Rattle.rule_pick.specs.Deciding.{minimum, asked_least}
use Rattle.rule_pick.specs.Reach.{is_of_copper}

-- the constraint asks two pieces of copper for no more
abbrev pub AsksAtMost : ℤ → PlainConstraint → Type 0
AsksAtMost n c = is_of_copper c.kind ≡ true → asked_least c ≤ℤ n

abbrev pub EachAsksAtMost : ℤ → PlainRule → Type 0
EachAsksAtMost n rule = All (AsksAtMost n) rule.constraints

-- no rule and no least value of the board asks two pieces of copper for more
pub record AskAtMost (rules : List PlainRule) (mins : PlainMins) (n : ℤ) : Type 0 where
  pub by_rules : All (EachAsksAtMost n) rules
  pub by_board : (micro : Bool) (kind : Kind) → is_of_copper kind ≡ true → minimum mins micro kind ≤ℤ n

-- nor does the item, or the class of its net
pub record ItAsksAtMost (facts : Facts) (n : ℤ) : Type 0 where
  pub local : (nm : ℤ) → facts.local ≡ Some nm → nm ≤ℤ n
  pub class_clearance : facts.class_clearance ≤ℤ n
