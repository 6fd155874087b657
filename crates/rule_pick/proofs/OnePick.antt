-- A kind of check has one pick.
use Rattle.std.proofs.Common.{◌≡◌, sym, subst, ◌∙◌, ◌⊎◌, inl, inr, ℕ, ◌<◌, ◌≤◌, Bool, false, List, IsTrue, Option, Some, None, arith}
use Rattle.std.specs.Int.{int_max}
use Rattle.std.specs.List.{slice_get}
use Rattle.std.proofs.lemmas.Bool.{cases_lt}
use Rattle.net_class.specs.NetClasses.{PlainMins}
use Rattle.cond_lang.specs.declared.kind.Kind.{Kind}
use Rattle.cond_lang.specs.Rules.{PlainConstraint, PlainRule}
use Rattle.rule_pick.specs.declared.facts.Facts.{Facts}
use Rattle.rule_pick.specs.declared.kinds.Source.TheVariants.{Local}
use Rattle.rule_pick.specs.Deciding.{local_of, minimum, matches_rule, asked_by, pick_least, pick_of_rule, IsDeciding, IsLocalPick, IsRulePick, IsDefaultPick, IsPick}
use Rattle.rule_pick.specs.Picks.{Pick}

some_once : {A : Type 0} (found : Option A) (x y : A) → found ≡ Some x → found ≡ Some y → x ≡ y
some_once found x y e f = cc

some_or_none : {A : Type 0} (found : Option A) (x : A) → found ≡ Some x → found ≡ None → ⊥
some_or_none found x e f = cc

not_both : (test : Bool) → IsTrue test → test ≡ false → ⊥
not_both test h e = cc

module _ (rules : List PlainRule) (mins : PlainMins) (kind : Kind) (a : Facts) (b : Option Facts) (layer : Option ℕ) where
  -- of two rules that decide neither comes after the other
  one_place : (m n : ℕ) (r s : PlainRule) → IsDeciding rules kind a b layer m r → IsDeciding rules kind a b layer n s → m ≡ n
  one_place m n r s h k = by (cases_lt m n) (cases_lt n m)
    where
      by : (m < n) ⊎ (n ≤ m) → (n < m) ⊎ (m ≤ n) → m ≡ n
      by (inl l) _ = absurd (not_both (matches_rule kind a b layer s) k.matches (h.none_later n s l k.stands))
      by (inr l) (inl g) = absurd (not_both (matches_rule kind a b layer r) h.matches (k.none_later m r g h.stands))
      by (inr l) (inr g) = omega arith

  one_rule : (m n : ℕ) (r s : PlainRule) → m ≡ n → IsDeciding rules kind a b layer m r → IsDeciding rules kind a b layer n s → r ≡ s
  one_rule m n r s e h k = some_once (slice_get rules n) r s (subst (λ (i : ℕ). slice_get rules i ≡ Some r) e h.stands) k.stands

  rules_once : (p q : Pick) → IsRulePick rules mins kind a b layer p → IsRulePick rules mins kind a b layer q → p ≡ q
  rules_once p q h k =
      let place : h.place ≡ k.place = one_place h.place k.place h.rule k.rule h.deciding k.deciding in
      let rule : h.rule ≡ k.rule = one_rule h.place k.place h.rule k.rule place h.deciding k.deciding in
      let asked : asked_by kind k.rule ≡ Some h.constraint = subst (λ (r : PlainRule). asked_by kind r ≡ Some h.constraint) rule h.asked in
      let constraint : h.constraint ≡ k.constraint = some_once (asked_by kind k.rule) h.constraint k.constraint asked k.asked in
      h.value ∙ same h.place k.place h.rule k.rule h.constraint k.constraint place rule constraint ∙ sym k.value
    where
      same : (m n : ℕ) (r s : PlainRule) (c d : PlainConstraint) → m ≡ n → r ≡ s → c ≡ d → pick_of_rule (minimum mins a.micro kind) a m r c ≡ pick_of_rule (minimum mins a.micro kind) a n s d
      same m n r s c d e f g = λ i. pick_of_rule (minimum mins a.micro kind) a (e i) (f i) (g i)

  locals_once : (p q : Pick) → IsLocalPick mins kind a b p → IsLocalPick mins kind a b q → p ≡ q
  locals_once p q h k = h.value ∙ same (some_once (local_of kind a b) h.nm k.nm h.local k.local) ∙ sym k.value
    where
      same : h.nm ≡ k.nm → pick_least Local (int_max h.nm (minimum mins a.micro kind)) ≡ pick_least Local (int_max k.nm (minimum mins a.micro kind))
      same e = λ i. pick_least Local (int_max (e i) (minimum mins a.micro kind))

  not_default : (p q : Pick) → IsRulePick rules mins kind a b layer p → IsDefaultPick rules mins kind a b layer q → ⊥
  not_default p q h k = not_both (matches_rule kind a b layer h.rule) h.deciding.matches (k.no_rule h.place h.rule h.deciding.stands)

  pub one_pick : (p q : Pick) → IsPick rules mins kind a b layer p → IsPick rules mins kind a b layer q → p ≡ q
  one_pick p q (inl h) (inl k) = locals_once p q h k
  one_pick p q (inl h) (inr (inl k)) = absurd (some_or_none (local_of kind a b) h.nm h.local k.local)
  one_pick p q (inl h) (inr (inr k)) = absurd (some_or_none (local_of kind a b) h.nm h.local k.local)
  one_pick p q (inr (inl h)) (inl k) = absurd (some_or_none (local_of kind a b) k.nm k.local h.local)
  one_pick p q (inr (inr h)) (inl k) = absurd (some_or_none (local_of kind a b) k.nm k.local h.local)
  one_pick p q (inr (inl h)) (inr (inl k)) = rules_once p q h k
  one_pick p q (inr (inl h)) (inr (inr k)) = absurd (not_default p q h k)
  one_pick p q (inr (inr h)) (inr (inl k)) = absurd (not_default q p k h)
  one_pick p q (inr (inr h)) (inr (inr k)) = h.value ∙ sym k.value
