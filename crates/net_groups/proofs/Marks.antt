-- Labels of places, and one label more.
use Rattle.std.proofs.Common.{◌≡◌, ◌⊎◌, ℕ, zero, suc, ◌+◌, ◌<◌, List, [], ◌∷◌, length, get_or, set, Option, None, Some, inl, inr, sym, subst, ◌∙◌, arith}
use Rattle.std.proofs.lemmas.List.{get_or-set_same, get_or-set_other, get_or_past}
use Rattle.std.proofs.lemmas.Bool.{cases_eq, cases_order, cases_lt}
use Rattle.net_groups.specs.ConnectedClasses.{Rises}
use Rattle.net_groups.specs.Labels.{label_at, unlabelled}

-- of ids that rise no two places have one id
pub distinct : (ids : List ℕ) → Rises ids → (i j : ℕ) → i < length ids → j < length ids → get_or ids i 0 ≡ get_or ids j 0 → i ≡ j
distinct ids rises i j hi hj e = elim (cases_order i j) [
  | inl same ↦ same
  | inr (inl lt) ↦ let less = rises i j 0 lt hj in absurd (omega arith)
  | inr (inr gt) ↦ let less = rises j i 0 gt hi in absurd (omega arith)
]

-- a place with a label is one of the list
pub within : (labels : List (Option ℕ)) (i x : ℕ) → label_at labels i ≡ Some x → i < length labels
within labels i x e = elim (cases_lt i (length labels)) [
  | inl lt ↦ lt
  | inr past ↦ let none : label_at labels i ≡ None = get_or_past labels i None past in absurd (cc)
]

pub unlabelled_set : (labels : List (Option ℕ)) (q x : ℕ) → q < length labels → label_at labels q ≡ None → unlabelled (set labels q (Some x)) + 1 ≡ unlabelled labels
unlabelled_set [] q x lt e = absurd (omega arith)
unlabelled_set (None ∷ labels) zero x lt e = omega arith
unlabelled_set (Some y ∷ labels) zero x lt e = absurd (cc)
unlabelled_set (None ∷ labels) (suc q) x lt e = let more = unlabelled_set labels q x (omega arith) e in omega arith
unlabelled_set (Some y ∷ labels) (suc q) x lt e = unlabelled_set labels q x (omega arith) e

module _ (labels : List (Option ℕ)) (q label : ℕ) (lt : q < length labels) (free : label_at labels q ≡ None) where
  pub set_here : label_at (set labels q (Some label)) q ≡ Some label
  set_here = get_or-set_same labels q (Some label) None lt

  pub set_kept : (i x : ℕ) → label_at labels i ≡ Some x → label_at (set labels q (Some label)) i ≡ Some x
  set_kept i x e = elim (cases_eq i q) [
    | inl same ↦ let has : label_at labels q ≡ Some x = subst (λ (k : ℕ). label_at labels k ≡ Some x) same e in absurd (cc)
    | inr other ↦ get_or-set_other labels q i (Some label) None other ∙ e
  ]

  pub set_cases : (i x : ℕ) → label_at (set labels q (Some label)) i ≡ Some x → (label_at labels i ≡ Some x) ⊎ ((i ≡ q) × (x ≡ label))
  set_cases i x e = elim (cases_eq i q) [
    | inl same ↦ let is : label_at (set labels q (Some label)) q ≡ Some x = subst (λ (k : ℕ). label_at (set labels q (Some label)) k ≡ Some x) same e in let has = set_here in inr (same, (cc))
    | inr other ↦ inl (sym (get_or-set_other labels q i (Some label) None other) ∙ e)
  ]
