-- The numbers of groups by the ids of their members.
use Rattle.std.proofs.Common.{◌≡◌, ◌⊎◌, ℕ, zero, suc, ◌+◌, ◌<◌, ◌≤◌, cond, nat_eq, List, [], ◌∷◌, ◌++◌, length, get_or, Contains, Option, None, Some, inl, inr, refl, sym, subst, ap, ◌∙◌, arith, eq-eqb}
use Rattle.std.specs.List.{AllPairs}
use Rattle.std.proofs.lemmas.Bool.{cases_eq, cases_order, ne_eqb}
use Rattle.std.proofs.lemmas.List.Elements.{Contains-push_cases, Contains-append_left, Contains-push}
use Rattle.net_groups.specs.ConnectedClasses.{AreDisjoint}
use Rattle.net_groups.specs.Numbering.{IsEntered, AreNumbered}
use Rattle.net_groups.proofs.AnchorLists.{nothing}

-- ---- one group
pub entered_none : (number : ℕ) (numbers : ℕ → Option ℕ) → IsEntered [] number numbers numbers
entered_none number numbers = record { put = λ id c. absurd (nothing id c); others = λ id. inr refl }

module _ (group : List ℕ) (number : ℕ) (old mid new : ℕ → Option ℕ) (k : ℕ) (so_far : IsEntered group number old mid)
    (step : (q : ℕ) → new q ≡ cond (nat_eq k q) (Some number) (mid q)) where
  at_k : (q : ℕ) → k ≡ q → new q ≡ Some number
  at_k q e = step q ∙ ap (λ b. cond b (Some number) (mid q)) (eq-eqb k q e)

  at_other : (q : ℕ) → (k ≡ q → ⊥) → new q ≡ mid q
  at_other q ne = step q ∙ ap (λ b. cond b (Some number) (mid q)) (ne_eqb k q ne)

  entered_more : IsEntered (group ++ k ∷ []) number old new
  entered_more = record { put = put; others = others }
    where
      put : (id : ℕ) → Contains (group ++ k ∷ []) id → new id ≡ Some number
      put id c = elim (cases_eq k id) [
        | inl e ↦ at_k id e
        | inr ne ↦ elim (Contains-push_cases group k id c) [
          | inl had ↦ at_other id ne ∙ so_far.put id had
          | inr e ↦ absurd (ne e)
        ]
      ]

      others : (id : ℕ) → (Contains (group ++ k ∷ []) id × (new id ≡ Some number)) ⊎ (new id ≡ old id)
      others id = elim (cases_eq k id) [
        | inl e ↦ inl (subst (Contains (group ++ k ∷ [])) e (Contains-push group k), at_k id e)
        | inr ne ↦ elim (so_far.others id) [
          | inl had ↦ inl (Contains-append_left group (k ∷ []) id had.0, at_other id ne ∙ had.1)
          | inr same ↦ inr (at_other id ne ∙ same)
        ]
      ]

pub entered_next : (group next : List ℕ) (number : ℕ) (old mid new : ℕ → Option ℕ) (k : ℕ) → next ≡ group ++ k ∷ [] → IsEntered group number old mid
    → ((q : ℕ) → new q ≡ cond (nat_eq k q) (Some number) (mid q)) → IsEntered next number old new
entered_next group next number old mid new k e so_far step = subst (λ (g : List ℕ). IsEntered g number old new) (sym e) (entered_more group number old mid new k so_far step)

-- ---- all groups
-- the first groups are numbered
pub record AreNumberedTo (groups : List (List ℕ)) (count : ℕ) (numbers : ℕ → Option ℕ) : Type 0 where
  pub only : (id number : ℕ) → numbers id ≡ Some number → Contains (get_or groups number []) id
  pub every : (id number : ℕ) → number < count → Contains (get_or groups number []) id → numbers id ≡ Some number

some_same : (a b : ℕ) → Some a ≡ Some b → a ≡ b
some_same a b e = cc

pub numbered_none : (groups : List (List ℕ)) (numbers : ℕ → Option ℕ) → ((id : ℕ) → numbers id ≡ None) → AreNumberedTo groups 0 numbers
numbered_none groups numbers none = record {
  only = λ id number e. let no = none id in absurd (cc);
  every = λ id number lt c. absurd (omega arith);
}

-- a member of two groups
apart : (groups : List (List ℕ)) → AllPairs AreDisjoint groups → (i j id : ℕ) → i < j → j < length groups → Contains (get_or groups i []) id → Contains (get_or groups j []) id → ⊥
apart groups disjoint i j id lt past c d = disjoint i j [] lt past id c d

pub numbered_more : (groups : List (List ℕ)) → AllPairs AreDisjoint groups → (count : ℕ) → count < length groups → (mid new : ℕ → Option ℕ) → AreNumberedTo groups count mid
    → IsEntered (get_or groups count []) count mid new → AreNumberedTo groups (count + 1) new
numbered_more groups disjoint count below mid new so_far step = record { only = only; every = every }
  where
    only : (id number : ℕ) → new id ≡ Some number → Contains (get_or groups number []) id
    only id number e = elim (step.others id) [
      | inl had ↦ subst (λ n. Contains (get_or groups n []) id) (some_same count number (sym had.1 ∙ e)) had.0
      | inr same ↦ so_far.only id number (sym same ∙ e)
    ]

    every : (id number : ℕ) → number < count + 1 → Contains (get_or groups number []) id → new id ≡ Some number
    every id number lt c = elim (cases_eq number count) [
      | inl e ↦ subst (λ n. new id ≡ Some n) (sym e) (step.put id (subst (λ n. Contains (get_or groups n []) id) e c))
      | inr ne ↦
          let less : number < count = omega arith in
          elim (step.others id) [
            | inl had ↦ absurd (apart groups disjoint number count id less below c had.0)
            | inr same ↦ same ∙ so_far.every id number less c
          ]
    ]

past_end : (groups : List (List ℕ)) (number id : ℕ) → length groups ≤ number → Contains (get_or groups number []) id → ⊥
past_end [] number id past c = absurd (nothing id c)
past_end (g ∷ gs) zero id past c = absurd (omega arith)
past_end (g ∷ gs) (suc n) id past c = past_end gs n id (omega arith) c

pub is_group : (groups : List (List ℕ)) (number id : ℕ) → Contains (get_or groups number []) id → number < length groups
is_group groups number id c = elim (cases_order number (length groups)) [
  | inl e ↦ absurd (past_end groups number id (omega arith) c)
  | inr (inl lt) ↦ lt
  | inr (inr gt) ↦ absurd (past_end groups number id (omega arith) c)
]

pub numbered_all : (groups : List (List ℕ)) (count : ℕ) → length groups ≤ count → (numbers : ℕ → Option ℕ) → AreNumberedTo groups count numbers → AreNumbered groups numbers
numbered_all groups count all numbers n = record {
  only = n.only;
  every = λ id number c. let lt = is_group groups number id c in n.every id number (omega arith) c;
}
