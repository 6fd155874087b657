-- Rows after an edit, where the rules and the ids that were lent are those that there are.
use Rattle.std.proofs.Common.{◌≡◌, subst, ℕ, List, map}
use Rattle.std.specs.Prelude.{Result, Ok, Err, IfOk, OnOk}
use Rattle.board_items.specs.Boards.{PlainBoard}
use Rattle.net_class.specs.NetClasses.{PlainClasses}
use Rattle.cond_lang.specs.declared.constraints.Rule.{Rule}
use Rattle.cond_lang.specs.Rules.{plain_rule}
use Rattle.pair_check.specs.PlainRow.{PlainRow}
use Rattle.pair_check.specs.Rows.{Checked, AreRows}
use Rattle.kept_rows.specs.CheckChanges.{IsCheckChange}

on_ok : {T E : Type 0} (r : Result T E) (P : Type 0) → IfOk r (λ _. P) → OnOk r P
on_ok (Ok x) P h = h
on_ok (Err e) P h = h

module _ {T E : Type 0} (r : Result T E) (board : PlainBoard) (classes : PlainClasses) (before after : List PlainRow) where
  abbrev checked : List Rule → Checked
  checked rules = record { board = board; classes = classes; rules = map plain_rule rules }

  abbrev Updated : List Rule → List ℕ → Type 0
  Updated rules ids = (old : Checked) → IsCheckChange old (checked rules) ids → AreRows old before → IfOk r (λ _. AreRows (checked rules) after)

  pub updated : (lent rules : List Rule) (some ids : List ℕ) → lent ≡ rules → some ≡ ids → Updated lent some → (old : Checked) → IsCheckChange old (checked rules) ids → AreRows old before → OnOk r (AreRows (checked rules) after)
  updated lent rules some ids e f law old step rows =
      on_ok r (AreRows (checked rules) after) (subst (λ (k : List ℕ). Updated rules k) f (subst (λ (q : List Rule). Updated q some) e law) old step rows)
