-- Facts item by item.
use Rattle.std.proofs.Common.{◌≡◌, ◌≢◌, refl, sym, ap, subst, ◌∙◌, ◌⊎◌, inl, inr, ℕ, List, [], ◌∷◌, Option, None, Some, IsSome}
use Rattle.std.proofs.lemmas.Bool.{cases_eq}
use Rattle.one_item.specs.declared.item.Item.{Item}
use Rattle.board_items.specs.Boards.{PlainBoard, item_at}
use Rattle.net_class.specs.NetClasses.{PlainClasses}
use Rattle.rule_pick.specs.declared.facts.Facts.{Facts}
use Rattle.rule_pick.specs.ById.{facts_at, IsPut}
use Rattle.rule_pick.specs.FactsOf.{AreFactsOf, AreFacts}
use Rattle.rule_pick.specs.AllFacts.{HasFacts}
use Rattle.item_facts.specs.Known.{AreLeft, HasFactsSoFar}
use Rattle.item_facts.proofs.LeftItems.{head_is, head_or_left}

some_same : (f g : Facts) → Some f ≡ Some g → g ≡ f
some_same f g e = cc

is_some : (found : Option Facts) (f : Facts) → found ≡ Some f → IsSome found
is_some found f e = rw e refl

module _ (board : PlainBoard) (classes : PlainClasses) where
  pub no_facts : (facts : List (Option Facts)) → ((id : ℕ) → facts_at facts id ≡ None) → HasFactsSoFar board classes board.items facts
  no_facts facts none = record { right = λ id f e. absurd (differ id f e); all = λ id item found. inl found }
    where
      differ : (id : ℕ) (f : Facts) → facts_at facts id ≡ Some f → ⊥
      differ id f e = let n = none id in cc

  pub all_facts : (facts : List (Option Facts)) → HasFactsSoFar board classes [] facts → HasFacts board classes facts
  all_facts facts h = record { right = h.right; all = λ id item found. last id item (h.all id item found) }
    where
      last : (id : ℕ) (item : Item) → (item_at [] id ≡ Some item) ⊎ IsSome (facts_at facts id) → IsSome (facts_at facts id)
      last id item (inl e) = absurd cc
      last id item (inr some) = some

  module _ (entry : ℕ × Item) (left : List (ℕ × Item)) (l : AreLeft board.items (entry ∷ left)) (old new : List (Option Facts)) (h : HasFactsSoFar board classes (entry ∷ left) old) (f : Facts) (is : AreFactsOf board classes entry.1 f)
      (u : IsPut entry.0 (Some f) old new) where
    at_head : (id : ℕ) → id ≡ entry.0 → facts_at new id ≡ Some f
    at_head id same = ap (facts_at new) same ∙ u.here

    apart : (id : ℕ) → id ≢ entry.0 → facts_at new id ≡ facts_at old id
    apart id other = u.rest id other

    right : (id : ℕ) (g : Facts) → facts_at new id ≡ Some g → AreFacts board classes id g
    right id g e = elim (cases_eq id entry.0) [
      | inl same ↦ record {
        item = entry.1;
        stands = ap (item_at board.items) same ∙ head_is board.items entry left l;
        facts_of = subst (λ (x : Facts). AreFactsOf board classes entry.1 x) (sym (some_same f g (sym (at_head id same) ∙ e))) is;
      }
      | inr other ↦ h.right id g (sym (apart id other) ∙ e)
    ]

    some_new : (id : ℕ) → IsSome (facts_at old id) → IsSome (facts_at new id)
    some_new id some = elim (cases_eq id entry.0) [
      | inl same ↦ is_some (facts_at new id) f (at_head id same)
      | inr other ↦ subst (λ (o : Option Facts). IsSome o) (sym (apart id other)) some
    ]

    all : (id : ℕ) (item : Item) → item_at board.items id ≡ Some item → (item_at left id ≡ Some item) ⊎ IsSome (facts_at new id)
    all id item found = elim (h.all id item found) [
      | inl next ↦ elim (head_or_left board.items entry left l id item next) [
        | inl head ↦ inr (is_some (facts_at new id) f (at_head id head.0))
        | inr later ↦ inl later
      ]
      | inr some ↦ inr (some_new id some)
    ]

    pub more_facts : HasFactsSoFar board classes left new
    more_facts = record { right = right; all = all }
