-- A label that spreads, and what is labelled when it has.
use Rattle.std.proofs.Common.{◌≡◌, ◌⊎◌, ℕ, ◌+◌, ◌<◌, ◌≤◌, List, [], ◌∷◌, ◌++◌, length, get_or, set, replicate, Contains, Option, None, Some, inl, inr, sym, subst, ◌∙◌, arith}
use Rattle.std.proofs.lemmas.List.{length-set, length-replicate, get_or-replicate}
use Rattle.std.proofs.lemmas.List.Elements.{Contains-push, Contains-push_cases, Contains-append_left}
use Rattle.std.proofs.lemmas.Bool.{cases_lt}
use Rattle.net_groups.specs.StepChains.{Chain}
use Rattle.net_groups.specs.StepChains.Chain.{here}
use Rattle.net_groups.specs.Labels.{label_at, IsLabelled, IsDone, IsVisited, IsSpread, AreLabels}
use Rattle.net_groups.proofs.Chains.{chain_join, chain_end, chain_back}
use Rattle.net_groups.proofs.Marks.{within, set_here, set_kept, set_cases}

contains_none : (x : ℕ) → Contains [] x → ⊥
contains_none x c = let past = c.1 in absurd (omega arith)

-- ---- the first place gets the label
module _ (Step : ℕ → ℕ → Type 0) (ids : List ℕ) (start label : ℕ) (before : List (Option ℕ)) (al : AreLabels Step ids start label before) (lt : start < length ids) (free : label_at before start ≡ None) where
  inside : start < length before
  inside = let many = al.places in omega arith

  new_label : (i : ℕ) → label_at (set before start (Some label)) i ≡ Some label → i ≡ start
  new_label i e = elim (set_cases before start label inside free i label e) [
    | inl old ↦ let less = al.below i label old in absurd (omega arith)
    | inr new ↦ new.0
  ]

  pub spread_begun : IsSpread Step ids before start label (start ∷ []) (set before start (Some label))
  spread_begun = record {
    places = length-set before start (Some label);
    kept = set_kept before start label inside free;
    fresh = λ i x e. elim (set_cases before start label inside free i x e) [ inl old ↦ inl old | inr new ↦ inr new.1 ];
    chained = λ i e. subst (λ (k : ℕ). Chain Step (get_or ids start 0) (get_or ids k 0)) (sym (new_label i e)) here;
    begun = set_here before start label inside free;
    stacked = λ i c. elim (Contains-push_cases [] start i c) [
      | inl h ↦ absurd (contains_none i h)
      | inr e ↦ subst (λ (k : ℕ). label_at (set before start (Some label)) k ≡ Some label) e (set_here before start label inside free)
    ];
    done = λ i e. inl (0, omega arith, sym (new_label i e));
  }

-- ---- one place was visited
module _ (Step : ℕ → ℕ → Type 0) (ids others : List ℕ) (before : List (Option ℕ)) (start label place : ℕ) (labels new_labels : List (Option ℕ)) (stack new_stack : List ℕ)
    (sp : IsSpread Step ids before start label (stack ++ place ∷ []) labels) (v : IsVisited Step ids others place label labels new_labels stack new_stack)
    (covers : (j : ℕ) → j < length ids → Step (get_or ids place 0) (get_or ids j 0) → (j ≡ place) ⊎ Contains others (get_or ids j 0)) where
  last : Contains (stack ++ place ∷ []) place
  last = Contains-push stack place

  own : label_at labels place ≡ Some label
  own = sp.stacked place last

  place_done : IsDone Step ids new_labels place
  place_done j lt s = elim (covers j lt s) [
    | inl same ↦ (label, v.kept j label (subst (λ (k : ℕ). label_at labels k ≡ Some label) (sym same) own))
    | inr c ↦ v.reached j lt c s
  ]

  done_more : (i : ℕ) → IsDone Step ids labels i → IsDone Step ids new_labels i
  done_more i d j lt s = let l = d j lt s in (l.0, v.kept j l.0 l.1)

  pub spread_visited : IsSpread Step ids before start label new_stack new_labels
  spread_visited = record {
    places = v.places ∙ sp.places;
    kept = λ i x e. v.kept i x (sp.kept i x e);
    fresh = λ i x e. elim (v.fresh i x e) [ inl old ↦ sp.fresh i x old | inr new ↦ inr new.0 ];
    chained = λ i e. elim (v.fresh i label e) [
      | inl old ↦ sp.chained i old
      | inr new ↦ chain_end Step (sp.chained place own) new.2
    ];
    begun = v.kept start label sp.begun;
    stacked = λ i c. elim (v.pushed i c) [
      | inl old ↦ v.kept i label (sp.stacked i (Contains-append_left stack (place ∷ []) i old))
      | inr e ↦ e
    ];
    done = done;
  }
    where
      done : (i : ℕ) → label_at new_labels i ≡ Some label → Contains new_stack i ⊎ IsDone Step ids new_labels i
      done i e = elim (v.fresh i label e) [
        | inl old ↦ elim (sp.done i old) [
          | inl c ↦ elim (Contains-push_cases stack place i c) [
            | inl h ↦ inl (v.stacked i h)
            | inr same ↦ inr (subst (IsDone Step ids new_labels) same place_done)
          ]
          | inr d ↦ inr (done_more i d)
        ]
        | inr new ↦ inl new.1
      ]

-- ---- the stack is empty: one group more
module _ (Step : ℕ → ℕ → Type 0) (back : (a b : ℕ) → Step a b → Step b a) (ids : List ℕ) (start label : ℕ) (before labels : List (Option ℕ))
    (al : AreLabels Step ids start label before) (sp : IsSpread Step ids before start label [] labels) where
  some_same : (i x y : ℕ) → label_at labels i ≡ Some x → label_at labels i ≡ Some y → x ≡ y
  some_same i x y e f = cc

  all_done : (i : ℕ) → label_at labels i ≡ Some label → IsDone Step ids labels i
  all_done i e = elim (sp.done i e) [ inl c ↦ absurd (contains_none i c) | inr d ↦ d ]

  not_before : (i : ℕ) → label_at labels i ≡ Some label → start ≤ i
  not_before i e = elim (cases_lt i start) [
    | inl lt ↦
        let l = al.filled i lt in
        let less = al.below i l.0 l.1 in
        let same = some_same i l.0 label (sp.kept i l.0 l.1) e in
        absurd (omega arith)
    | inr ge ↦ ge
  ]

  inside_ids : (i x : ℕ) → label_at labels i ≡ Some x → i < length ids
  inside_ids i x e = omega (arith, within labels i x e, sp.places, al.places)

  closed : (i j x : ℕ) → j < length ids → label_at labels i ≡ Some x → Step (get_or ids i 0) (get_or ids j 0) → label_at labels j ≡ Some x
  closed i j x lt e s = elim (sp.fresh i x e) [
    | inl old ↦ sp.kept j x (al.closed i j x lt old s)
    | inr new ↦
        let l = all_done i (subst (λ (k : ℕ). label_at labels i ≡ Some k) new e) j lt s in
        elim (sp.fresh j l.0 l.1) [
          | inl was ↦
              let there = sp.kept i l.0 (al.closed j i l.0 (inside_ids i x e) was (back (get_or ids i 0) (get_or ids j 0) s)) in
              subst (λ (k : ℕ). label_at labels j ≡ Some k) (some_same i l.0 x there e) l.1
          | inr same ↦ subst (λ (k : ℕ). label_at labels j ≡ Some k) (same ∙ sym new) l.1
        ]
  ]

  chained : (i j x : ℕ) → label_at labels i ≡ Some x → label_at labels j ≡ Some x → Chain Step (get_or ids i 0) (get_or ids j 0)
  chained i j x e f = elim (sp.fresh i x e) [
    | inr new ↦ by_start new
    | inl old ↦ elim (sp.fresh j x f) [
      | inr new ↦ by_start new
      | inl was ↦ al.chained i j x old was
    ]
  ]
    where
      by_start : x ≡ label → Chain Step (get_or ids i 0) (get_or ids j 0)
      by_start new =
          chain_join Step (chain_back Step back (sp.chained i (subst (λ (k : ℕ). label_at labels i ≡ Some k) new e)))
          (sp.chained j (subst (λ (k : ℕ). label_at labels j ≡ Some k) new f))

  filled : (i : ℕ) → i < start + 1 → IsLabelled labels i
  filled i lt = elim (cases_lt i start) [
    | inl less ↦ let l = al.filled i less in (l.0, sp.kept i l.0 l.1)
    | inr ge ↦ let same : start ≡ i = omega arith in (label, subst (λ (k : ℕ). label_at labels k ≡ Some label) same sp.begun)
  ]

  occurs : (x : ℕ) → x < label + 1 → (i : ℕ) × (i < start + 1) × (label_at labels i ≡ Some x)
  occurs x lt = elim (cases_lt x label) [
    | inl less ↦ let o = al.occurs x less in let before_start = o.1 in (o.0, omega arith, sp.kept o.0 x o.2)
    | inr ge ↦ let same : label ≡ x = omega arith in (start, omega arith, subst (λ (k : ℕ). label_at labels start ≡ Some k) same sp.begun)
  ]

  in_order : (x y i : ℕ) → x < y → label_at labels i ≡ Some y → (s : ℕ) × (s < i) × (label_at labels s ≡ Some x)
  in_order x y i lt e = elim (sp.fresh i y e) [
    | inl old ↦ let o = al.in_order x y i lt old in (o.0, o.1, sp.kept o.0 x o.2)
    | inr new ↦
        let o = al.occurs x (omega arith) in
        let before_start = o.1 in
        let from = not_before i (subst (λ (k : ℕ). label_at labels i ≡ Some k) new e) in
        (o.0, omega arith, sp.kept o.0 x o.2)
  ]

  below : (i x : ℕ) → label_at labels i ≡ Some x → x < label + 1
  below i x e = elim (sp.fresh i x e) [
    | inl old ↦ let less = al.below i x old in omega arith
    | inr new ↦ omega arith
  ]

  pub labels_more : AreLabels Step ids (start + 1) (label + 1) labels
  labels_more = record {
    places = sp.places ∙ al.places;
    filled = filled;
    few = let few = al.few in omega arith;
    below = below;
    closed = closed;
    chained = chained;
    occurs = occurs;
    in_order = in_order;
  }

-- ---- a place that has a label already
pub labels_same : (Step : ℕ → ℕ → Type 0) (ids : List ℕ) (gone count : ℕ) (labels : List (Option ℕ)) → IsLabelled labels gone → AreLabels Step ids gone count labels → AreLabels Step ids (gone + 1) count labels
labels_same Step ids gone count labels l al = record {
  places = al.places;
  filled = filled;
  few = let few = al.few in omega arith;
  below = al.below;
  closed = al.closed;
  chained = al.chained;
  occurs = λ x lt. let o = al.occurs x lt in let less = o.1 in (o.0, omega arith, o.2);
  in_order = al.in_order;
}
  where
    filled : (i : ℕ) → i < gone + 1 → IsLabelled labels i
    filled i lt = elim (cases_lt i gone) [
      | inl less ↦ al.filled i less
      | inr ge ↦ let same : gone ≡ i = omega arith in subst (IsLabelled labels) same l
    ]

-- ---- no place has a label
pub labels_none : (Step : ℕ → ℕ → Type 0) (ids : List ℕ) → AreLabels Step ids 0 0 (replicate (length ids) None)
labels_none Step ids = record {
  places = length-replicate (length ids) None;
  filled = λ i lt. absurd (omega arith);
  few = omega arith;
  below = λ i x e. absurd (no_label i x e);
  closed = λ i j x lt e s. absurd (no_label i x e);
  chained = λ i j x e f. absurd (no_label i x e);
  occurs = λ x lt. absurd (omega arith);
  in_order = λ x y i lt e. absurd (no_label i y e);
}
  where
    no_label : (i x : ℕ) → label_at (replicate (length ids) None) i ≡ Some x → ⊥
    no_label i x e =
        let lt : i < length ids = omega (arith, within (replicate (length ids) None) i x e, length-replicate {A = Option ℕ} (length ids) None) in
        let none : label_at (replicate (length ids) None) i ≡ None = get_or-replicate (length ids) i None None lt in
        cc

-- the place that was on top of the stack is one of the ids'
pub next_inside : (Step : ℕ → ℕ → Type 0) (ids : List ℕ) (start label : ℕ) (before labels : List (Option ℕ)) (stack : List ℕ) → AreLabels Step ids start label before → IsSpread Step ids before start label stack labels
    → (others : List ℕ) (place : ℕ) → stack ≡ others ++ place ∷ [] → place < length ids
next_inside Step ids start label before labels stack al sp others place e =
    omega (arith, within labels place label (sp.stacked place (subst (λ (s : List ℕ). Contains s place) (sym e) (Contains-push others place))), sp.places, al.places)
