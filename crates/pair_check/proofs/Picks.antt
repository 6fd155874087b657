-- What was picked on a layer.
use Rattle.std.proofs.Common.{◌≡◌, subst, Option, List, ℕ, Bool, false, true, IsTrue, ◌↔◌}
use Rattle.net_class.specs.NetClasses.{PlainMins}
use Rattle.cond_lang.specs.declared.kind.Kind.{Kind}
use Rattle.cond_lang.specs.declared.rule.Severity.{Severity}
use Rattle.cond_lang.specs.Rules.{PlainRule}
use Rattle.rule_pick.specs.declared.facts.Facts.{Facts}
use Rattle.rule_pick.specs.Deciding.{IsPick}
use Rattle.rule_pick.specs.Picks.{Pick}
use Rattle.pair_check.specs.PlainRow.{MakesRows}

-- picked by the same least values, and on the same layer
pub picked_as : (rules : List PlainRule) (mins least : PlainMins) (kind : Kind) (a : Facts) (b : Option Facts) (asked layer : Option ℕ) (pick : Pick) → mins ≡ least → asked ≡ layer
    → IsPick rules mins kind a b asked pick → IsPick rules least kind a b layer pick
picked_as rules mins least kind a b asked layer pick e f h =
    subst (λ (l : Option ℕ). IsPick rules least kind a b l pick) f (subst (λ (m : PlainMins). IsPick rules m kind a b asked pick) e h)

-- a severity that does not count
pub counts_not : (r : Bool) (severity other : Severity) → (IsTrue r ↔ MakesRows severity) → r ≡ false → other ≡ severity → MakesRows other → ⊥
counts_not r severity other h e same counts = unmet r e (h.1 (subst MakesRows same counts))
  where
    unmet : (r : Bool) → r ≡ false → r ≡ true → ⊥
    unmet r e f = cc

pub counts_so : (r : Bool) (severity : Severity) → (IsTrue r ↔ MakesRows severity) → r ≡ true → MakesRows severity
counts_so r severity h e = h.0 e
