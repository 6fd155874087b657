-- A visit of a place, one of the others at a time.
use Rattle.std.proofs.Common.{◌≡◌, ◌⊎◌, ℕ, ◌+◌, ◌<◌, ◌≤◌, take, List, [], ◌∷◌, ◌++◌, length, get_or, set, Contains, Option, None, Some, inl, inr, refl, sym, subst, ◌∙◌, arith}
use Rattle.std.proofs.lemmas.Bool.{cases_lt}
use Rattle.std.proofs.lemmas.List.{length-set, length_push, length-take, get_or-take, get_or_default, take_more, take_all}
use Rattle.std.proofs.lemmas.List.Elements.{Contains-push, Contains-push_cases, Contains-append_left, Contains-append_cases}
use Rattle.net_groups.specs.ConnectedClasses.{Rises}
use Rattle.net_groups.specs.Labels.{label_at, IsLabelled, IsVisited}
use Rattle.net_groups.proofs.Marks.{distinct, unlabelled_set, set_here, set_kept, set_cases}

pub visited_none : (Step : ℕ → ℕ → Type 0) (ids : List ℕ) (place label : ℕ) (labels : List (Option ℕ)) (stack : List ℕ) → IsVisited Step ids [] place label labels labels stack stack
visited_none Step ids place label labels stack = record {
  places = refl;
  balance = refl;
  kept = λ i x e. e;
  fresh = λ i x e. inl e;
  stacked = λ i c. c;
  pushed = λ i c. inl c;
  reached = λ j lt c s. let past = c.1 in absurd (omega arith);
}

module _ (Step : ℕ → ℕ → Type 0) (ids others : List ℕ) (place label : ℕ) (before labels : List (Option ℕ)) (first stack : List ℕ) (v : IsVisited Step ids others place label before labels first stack) (id : ℕ) where
  -- the id is none of the ids, or has a label, or is not touched
  pub visited_skip : ((j : ℕ) → j < length ids → get_or ids j 0 ≡ id → Step (get_or ids place 0) id → IsLabelled labels j) → IsVisited Step ids (others ++ id ∷ []) place label before labels first stack
  visited_skip skipped = record {
    places = v.places;
    balance = v.balance;
    kept = v.kept;
    fresh = v.fresh;
    stacked = v.stacked;
    pushed = v.pushed;
    reached = λ j lt c s. elim (Contains-push_cases others id (get_or ids j 0) c) [
      | inl h ↦ v.reached j lt h s
      | inr e ↦ skipped j lt (sym e) (subst (Step (get_or ids place 0)) (sym e) s)
    ];
  }

  module _ (rises : Rises ids) (q : ℕ) (lt : q < length ids) (many : length labels ≡ length ids) (is : get_or ids q 0 ≡ id) (touch : Step (get_or ids place 0) id) (free : label_at labels q ≡ None) where
    inside : q < length labels
    inside = omega arith

    pub visited_push : IsVisited Step ids (others ++ id ∷ []) place label before (set labels q (Some label)) first (stack ++ q ∷ [])
    visited_push = record {
      places = length-set labels q (Some label) ∙ v.places;
      balance = omega (arith, unlabelled_set labels q label inside free, length_push stack q, v.balance);
      kept = λ i x e. set_kept labels q label inside free i x (v.kept i x e);
      fresh = fresh;
      stacked = λ i c. Contains-append_left stack (q ∷ []) i (v.stacked i c);
      pushed = pushed;
      reached = reached;
    }
      where
        fresh : (i x : ℕ) → label_at (set labels q (Some label)) i ≡ Some x
            → (label_at before i ≡ Some x) ⊎ ((x ≡ label) × Contains (stack ++ q ∷ []) i × Step (get_or ids place 0) (get_or ids i 0))
        fresh i x e = elim (set_cases labels q label inside free i x e) [
          | inl old ↦ elim (v.fresh i x old) [
            | inl was ↦ inl was
            | inr new ↦ inr (new.0, Contains-append_left stack (q ∷ []) i new.1, new.2)
          ]
          | inr here ↦ inr (
            here.1,
            subst (Contains (stack ++ q ∷ [])) (sym here.0) (Contains-push stack q),
            subst (λ (k : ℕ). Step (get_or ids place 0) (get_or ids k 0)) (sym here.0) (subst (Step (get_or ids place 0)) (sym is) touch),
          )
        ]

        pushed : (i : ℕ) → Contains (stack ++ q ∷ []) i → Contains first i ⊎ (label_at (set labels q (Some label)) i ≡ Some label)
        pushed i c = elim (Contains-push_cases stack q i c) [
          | inl h ↦ elim (v.pushed i h) [ inl old ↦ inl old | inr e ↦ inr (set_kept labels q label inside free i label e) ]
          | inr e ↦ inr (subst (λ (k : ℕ). label_at (set labels q (Some label)) k ≡ Some label) e (set_here labels q label inside free))
        ]

        reached : (j : ℕ) → j < length ids → Contains (others ++ id ∷ []) (get_or ids j 0) → Step (get_or ids place 0) (get_or ids j 0) → IsLabelled (set labels q (Some label)) j
        reached j jt c s = elim (Contains-push_cases others id (get_or ids j 0) c) [
          | inl h ↦ let l = v.reached j jt h s in (l.0, set_kept labels q label inside free j l.0 l.1)
          | inr e ↦ (label, subst (λ (k : ℕ). label_at (set labels q (Some label)) k ≡ Some label) (distinct ids rises q j lt jt (is ∙ e)) (set_here labels q label inside free))
        ]

-- ---- the same along all places
-- all before the first place have a label
pub visited_first : (Step : ℕ → ℕ → Type 0) (ids : List ℕ) (place label : ℕ) (labels : List (Option ℕ)) (stack : List ℕ) (first : ℕ) → Rises ids → ((i : ℕ) → i < first → IsLabelled labels i)
    → IsVisited Step ids (take first ids) place label labels labels stack stack
visited_first Step ids place label labels stack first rises filled = record {
  places = refl;
  balance = refl;
  kept = λ i x e. e;
  fresh = λ i x e. inl e;
  stacked = λ i c. c;
  pushed = λ i c. inl c;
  reached = λ j lt c s.
      let within : c.0 < length (take first ids) = c.1 in
      let before : c.0 < first = omega (arith, within, length-take first ids) in
      let inside : c.0 < length ids = omega (arith, within, length-take first ids) in
      let is : get_or ids c.0 0 ≡ get_or ids j 0 = sym (get_or-take first ids c.0 0 before) ∙ (get_or_default (take first ids) c.0 0 (get_or ids j 0) within ∙ c.2) in
      subst (IsLabelled labels) (distinct ids rises c.0 j inside lt is) (filled c.0 before);
}

module _ (Step : ℕ → ℕ → Type 0) (ids : List ℕ) (rises : Rises ids) (place label : ℕ) (before labels : List (Option ℕ)) (first stack : List ℕ) (i : ℕ) (lt : i < length ids)
    (v : IsVisited Step ids (take i ids) place label before labels first stack) where
  along : (new_labels : List (Option ℕ)) (new_stack : List ℕ) → IsVisited Step ids (take i ids ++ get_or ids i 0 ∷ []) place label before new_labels first new_stack → IsVisited Step ids (take (i + 1) ids) place label before new_labels first new_stack
  along new_labels new_stack w = subst (λ (seen : List ℕ). IsVisited Step ids seen place label before new_labels first new_stack) (sym (take_more ids i 0 lt)) w

  pub next_skip : (Step (get_or ids place 0) (get_or ids i 0) → IsLabelled labels i) → IsVisited Step ids (take (i + 1) ids) place label before labels first stack
  next_skip over =
      along labels stack
      (visited_skip Step ids (take i ids) place label before labels first stack v (get_or ids i 0)
      (λ j at same s. subst (IsLabelled labels) (distinct ids rises i j lt at (sym same)) (over s)))

  pub next_push : length labels ≡ length ids → Step (get_or ids place 0) (get_or ids i 0) → label_at labels i ≡ None
      → IsVisited Step ids (take (i + 1) ids) place label before (set labels i (Some label)) first (stack ++ i ∷ [])
  next_push many touch free = along (set labels i (Some label)) (stack ++ i ∷ []) (visited_push Step ids (take i ids) place label before labels first stack v (get_or ids i 0) rises i lt many refl touch free)

-- none of some more is touched
pub visited_past : (Step : ℕ → ℕ → Type 0) (ids : List ℕ) → Rises ids → (place label : ℕ) (before labels : List (Option ℕ)) (first stack : List ℕ) (i : ℕ) → IsVisited Step ids (take i ids) place label before labels first stack
    → (n : ℕ) → ((j : ℕ) → i ≤ j → j < n → j < length ids → Step (get_or ids place 0) (get_or ids j 0) → ⊥) → IsVisited Step ids (take n ids) place label before labels first stack
visited_past Step ids rises place label before labels first stack i v n none = record {
  places = v.places;
  balance = v.balance;
  kept = v.kept;
  fresh = v.fresh;
  stacked = v.stacked;
  pushed = v.pushed;
  reached = λ j lt c s.
      let within : c.0 < length (take n ids) = c.1 in
      let low : c.0 < n = omega (arith, within, length-take n ids) in
      let inside : c.0 < length ids = omega (arith, within, length-take n ids) in
      let is : get_or ids c.0 0 ≡ get_or ids j 0 = sym (get_or-take n ids c.0 0 low) ∙ (get_or_default (take n ids) c.0 0 (get_or ids j 0) within ∙ c.2) in
      let same : c.0 ≡ j = distinct ids rises c.0 j inside lt is in
      elim (cases_lt j i) [
        | inl early ↦
            let there : j < length (take i ids) = omega (arith, length-take i ids) in
            v.reached j lt (j, there, get_or-take i ids j (get_or ids j 0) early ∙ get_or_default ids j (get_or ids j 0) 0 lt) s
        | inr late ↦ absurd (none j late (omega arith) lt s)
      ];
}

-- all of a list were asked
pub visited_all : (Step : ℕ → ℕ → Type 0) (ids others : List ℕ) (place label : ℕ) (before labels : List (Option ℕ)) (first stack : List ℕ) (i : ℕ) → length others ≤ i
    → IsVisited Step ids (take i others) place label before labels first stack → IsVisited Step ids others place label before labels first stack
visited_all Step ids others place label before labels first stack i le v = subst (λ (seen : List ℕ). IsVisited Step ids seen place label before labels first stack) (take_all i others le) v

-- ---- one list after another
pub visited_join : (Step : ℕ → ℕ → Type 0) (ids others more : List ℕ) (place label : ℕ) (first second third : List (Option ℕ)) (one two three : List ℕ) → IsVisited Step ids others place label first second one two
    → IsVisited Step ids more place label second third two three → IsVisited Step ids (others ++ more) place label first third one three
visited_join Step ids others more place label first second third one two three v w = record {
  places = w.places ∙ v.places;
  balance = w.balance ∙ v.balance;
  kept = λ i x e. w.kept i x (v.kept i x e);
  fresh = fresh;
  stacked = λ i c. w.stacked i (v.stacked i c);
  pushed = pushed;
  reached = reached;
}
  where
    fresh : (i x : ℕ) → label_at third i ≡ Some x → (label_at first i ≡ Some x) ⊎ ((x ≡ label) × Contains three i × Step (get_or ids place 0) (get_or ids i 0))
    fresh i x e = elim (w.fresh i x e) [
      | inl old ↦ elim (v.fresh i x old) [
        | inl was ↦ inl was
        | inr new ↦ inr (new.0, w.stacked i new.1, new.2)
      ]
      | inr new ↦ inr new
    ]

    pushed : (i : ℕ) → Contains three i → Contains one i ⊎ (label_at third i ≡ Some label)
    pushed i c = elim (w.pushed i c) [
      | inl old ↦ elim (v.pushed i old) [ inl was ↦ inl was | inr e ↦ inr (w.kept i label e) ]
      | inr e ↦ inr e
    ]

    reached : (j : ℕ) → j < length ids → Contains (others ++ more) (get_or ids j 0) → Step (get_or ids place 0) (get_or ids j 0) → IsLabelled third j
    reached j lt c s = elim (Contains-append_cases others more (get_or ids j 0) c) [
      | inl h ↦ let l = v.reached j lt h s in (l.0, w.kept j l.0 l.1)
      | inr h ↦ w.reached j lt h s
    ]
