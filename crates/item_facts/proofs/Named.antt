-- Names that are found item by item.
use Rattle.std.proofs.Common.{refl, sym, subst, inl, inr, ℕ, List, [], ◌∷◌, ◌++◌, Option, Some, None, MatchOption}
use Rattle.std.specs.Option.{option_copied}
use Rattle.std.proofs.lemmas.List.{append_assoc, append-nil}
use denote.Ref.{Bor}
use Rattle.one_item.specs.declared.item.Item.{Item}
use Rattle.one_item.specs.declared.item.What.{What}
use Rattle.rule_pick.specs.FactsOf.{AreNamesOf}
use Rattle.item_facts.specs.FoundNames.{ArePrefix, name_if}

module _ (Gives : What → List ℕ → Type 0) (items : List (ℕ × Item)) where
  pub at_start : ArePrefix Gives items items []
  at_start = record { with_rest = λ names a. a }

  skipped : (entry : ℕ × Item) (left : List (ℕ × Item)) (names : List (List ℕ)) → ((name : List ℕ) → ¬ (Gives entry.1.what name)) → AreNamesOf Gives left names → AreNamesOf Gives (entry ∷ left) names
  skipped entry left [] none a = (none, a)
  skipped entry left (name ∷ names) none a = inr (none, a)

  pub step : (entry : ℕ × Item) (left : List (ℕ × Item)) (found : List (List ℕ)) (met : Option (Bor (List ℕ))) → MatchOption met ((name : List ℕ) → ¬ (Gives entry.1.what name)) (λ name. Gives entry.1.what name.now) → ArePrefix Gives items (entry ∷ left) found → ArePrefix Gives items left (found ++ name_if (option_copied met))
  step entry left found None none h = record {
    with_rest = λ names a. subst (λ (l : List (List ℕ)). AreNamesOf Gives items (l ++ names)) (sym (append-nil found)) (h.with_rest names (skipped entry left names none a));
  }
  step entry left found (Some name) gives h = record {
    with_rest = λ names a. subst (λ (l : List (List ℕ)). AreNamesOf Gives items l) (sym (append_assoc found (name.now ∷ []) names)) (h.with_rest (name.now ∷ names) (inl (gives, a)));
  }

  pub at_end : (found : List (List ℕ)) → ArePrefix Gives items [] found → AreNamesOf Gives items found
  at_end found h = subst (λ (l : List (List ℕ)). AreNamesOf Gives items l) (append-nil found) (h.with_rest [] refl)
