-- The lists of labels, one place more.
use Rattle.std.proofs.Common.{◌≡◌, ℕ, ◌+◌, ◌<◌, ◌≤◌, ◌==◌, Bool, true, false, cond, List, [], ◌∷◌, ◌++◌, length, get_or, set, take, replicate, Option, None, Some, inl, inr, refl, sym, subst, ap, ◌∙◌, arith, eq-eqb}
use Rattle.std.proofs.lemmas.Bool.{cases_eq, ne_eqb}
use Rattle.std.proofs.lemmas.List.{take_more, length-take-le, length-set, length-replicate, get_or-replicate, get_or-set_same, get_or-set_other, take_all}
use Rattle.net_groups.specs.Labels.{label_at, has_label, ids_of, AreGathered}

ids_of_more : (x : ℕ) (labels : List (Option ℕ)) (ids : List ℕ) (label : Option ℕ) (id : ℕ) → length labels ≡ length ids
    → ids_of x (labels ++ label ∷ []) (ids ++ id ∷ []) ≡ cond (has_label x label) (ids_of x labels ids ++ id ∷ []) (ids_of x labels ids)
ids_of_more x [] [] label id many = refl
ids_of_more x [] (i ∷ ids) label id many = absurd (omega arith)
ids_of_more x (l ∷ labels) [] label id many = absurd (omega arith)
ids_of_more x (l ∷ labels) (i ∷ ids) label id many = by_test (has_label x l) (has_label x label) (ids_of_more x labels ids label id (omega arith))
  where
    by_test : (b c : Bool) → ids_of x (labels ++ label ∷ []) (ids ++ id ∷ []) ≡ cond c (ids_of x labels ids ++ id ∷ []) (ids_of x labels ids)
        → cond b (i ∷ ids_of x (labels ++ label ∷ []) (ids ++ id ∷ [])) (ids_of x (labels ++ label ∷ []) (ids ++ id ∷ []))
        ≡ cond c (cond b (i ∷ ids_of x labels ids) (ids_of x labels ids) ++ id ∷ []) (cond b (i ∷ ids_of x labels ids) (ids_of x labels ids))
    by_test true true e = ap (λ (rest : List ℕ). i ∷ rest) e
    by_test true false e = ap (λ (rest : List ℕ). i ∷ rest) e
    by_test false true e = e
    by_test false false e = e

pub gathered_none : (count : ℕ) (labels : List (Option ℕ)) (ids : List ℕ) → AreGathered count (take 0 labels) (take 0 ids) (replicate count [])
gathered_none count labels ids = record { count_is = length-replicate {A = List ℕ} count []; each = λ x lt. get_or-replicate count x [] [] lt }

module _ (count : ℕ) (labels : List (Option ℕ)) (ids : List ℕ) (many : length labels ≡ length ids) (place : ℕ) (inside : place < length ids) (groups : List (List ℕ))
    (g : AreGathered count (take place labels) (take place ids) groups) where
  step : (x : ℕ) → ids_of x (take (place + 1) labels) (take (place + 1) ids)
      ≡ cond (has_label x (label_at labels place)) (ids_of x (take place labels) (take place ids) ++ get_or ids place 0 ∷ []) (ids_of x (take place labels) (take place ids))
  step x =
      ap (λ (ls : List (Option ℕ)). ids_of x ls (take (place + 1) ids)) (take_more labels place None (omega arith))
      ∙ (ap (λ (is : List ℕ). ids_of x (take place labels ++ label_at labels place ∷ []) is) (take_more ids place 0 inside)
      ∙ ids_of_more x (take place labels) (take place ids) (label_at labels place) (get_or ids place 0) (length-take-le place labels (omega arith) ∙ sym (length-take-le place ids (omega arith))))

  pub gathered_skip : label_at labels place ≡ None → AreGathered count (take (place + 1) labels) (take (place + 1) ids) groups
  gathered_skip none = record { count_is = g.count_is; each = λ x lt. g.each x lt ∙ sym (step x ∙ ap (λ (l : Option ℕ). cond (has_label x l) (ids_of x (take place labels) (take place ids) ++ get_or ids place 0 ∷ []) (ids_of x (take place labels) (take place ids))) none) }

  pub gathered_push : (label : ℕ) → label < count → label_at labels place ≡ Some label → AreGathered count (take (place + 1) labels) (take (place + 1) ids) (set groups label (get_or groups label [] ++ get_or ids place 0 ∷ []))
  gathered_push label below is = record { count_is = length-set groups label (get_or groups label [] ++ get_or ids place 0 ∷ []) ∙ g.count_is; each = each }
    where
      step_is : (x : ℕ) → ids_of x (take (place + 1) labels) (take (place + 1) ids)
          ≡ cond (label == x) (ids_of x (take place labels) (take place ids) ++ get_or ids place 0 ∷ []) (ids_of x (take place labels) (take place ids))
      step_is x = step x ∙ ap (λ (l : Option ℕ). cond (has_label x l) (ids_of x (take place labels) (take place ids) ++ get_or ids place 0 ∷ []) (ids_of x (take place labels) (take place ids))) is

      each : (x : ℕ) → x < count → get_or (set groups label (get_or groups label [] ++ get_or ids place 0 ∷ [])) x [] ≡ ids_of x (take (place + 1) labels) (take (place + 1) ids)
      each x lt = elim (cases_eq x label) [
        | inl same ↦
            let here = get_or-set_same groups label (get_or groups label [] ++ get_or ids place 0 ∷ []) [] (let c = g.count_is in omega arith) in
            subst (λ (k : ℕ). get_or (set groups label (get_or groups label [] ++ get_or ids place 0 ∷ [])) k [] ≡ ids_of k (take (place + 1) labels) (take (place + 1) ids)) (sym same)
            (here ∙ (ap (λ (ms : List ℕ). ms ++ get_or ids place 0 ∷ []) (g.each label below)
            ∙ sym (step_is label ∙ ap (λ (b : Bool). cond b (ids_of label (take place labels) (take place ids) ++ get_or ids place 0 ∷ []) (ids_of label (take place labels) (take place ids))) (eq-eqb label label refl))))
        | inr other ↦
            get_or-set_other groups label x (get_or groups label [] ++ get_or ids place 0 ∷ []) [] other
            ∙ (g.each x lt ∙ sym (step_is x ∙ ap (λ (b : Bool). cond b (ids_of x (take place labels) (take place ids) ++ get_or ids place 0 ∷ []) (ids_of x (take place labels) (take place ids))) (ne_eqb label x (λ e. other (sym e)))))
      ]

pub gathered_all : (count : ℕ) (labels : List (Option ℕ)) (ids : List ℕ) → length labels ≡ length ids → (place : ℕ) → length ids ≤ place → (groups : List (List ℕ)) → AreGathered count (take place labels) (take place ids) groups → AreGathered count labels ids groups
gathered_all count labels ids many place last groups g =
    subst (λ (ls : List (Option ℕ)). AreGathered count ls ids groups) (take_all place labels (omega arith)) (subst (λ (is : List ℕ). AreGathered count (take place labels) is groups) (take_all place ids last) g)
