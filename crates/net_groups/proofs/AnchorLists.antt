-- Lists of anchors that rise by id and number.
use Rattle.std.proofs.Common.{◌≡◌, ◌⊎◌, ℕ, zero, suc, ◌-◌, ◌<◌, ◌≤◌, ◌≤ℤ◌, ℤ, pos, neg_ℤ, List, [], ◌∷◌, ◌++◌, length, get_or, Contains, inl, inr, refl, sym, subst, ap, ◌∙◌, arith, length-append}
use Rattle.std.specs.Int.Signed.{le_z}
use Rattle.std.specs.List.{AllPairs}
use Rattle.std.proofs.Math.Dec.{T_prop}
use Rattle.std.proofs.lemmas.Bool.{cases_lt}
use Rattle.std.proofs.lemmas.List.{get_or_append_left, get_or-append_right, get_or_default}
use Rattle.ratsnest.specs.CoordinateRange.{IsInReach}
use Rattle.ratsnest.specs.declared.anchor.Anchor.{Anchor}
use Rattle.ratsnest.specs.NestOf.{nowhere, anchor_at, group_at, group_count, IsBefore, AnchorsRise}
use Rattle.board_index.proofs.OneList.{same_lists}

-- ---- an anchor is told by what it says; the ranges have one proof each
≤ℤ_prop : (a b : ℤ) → IsProp (a ≤ℤ b)
≤ℤ_prop a b = hlevel (T_prop (le_z a b))

IsInReach-prop : (z : ℤ) → IsProp (IsInReach z)
IsInReach-prop z = hlevel (≤ℤ_prop (neg_ℤ (pos 500000000)) z, ≤ℤ_prop z (pos 500000000))

abbrev made : ℕ → ℕ → ℕ → (x y : ℤ) → IsInReach x → IsInReach y → Anchor
made id number group x y p q = record { id = id; number = number; group = group; x = x; y = y; x_in_range = p; y_in_range = q }

same_y : (id number group : ℕ) (x y z : ℤ) (p : IsInReach x) (q : IsInReach y) → y ≡ z → (r : IsInReach z) → made id number group x y p q ≡ made id number group x z p r
same_y id number group x y z p q e =
    subst (λ (w : ℤ). (r : IsInReach w) → made id number group x y p q ≡ made id number group x w p r) e
    (λ r. ap (λ (s : IsInReach y). made id number group x y p s) (IsInReach-prop y q r))

same_x : (id number group : ℕ) (x z y : ℤ) (p : IsInReach x) (q : IsInReach y) → x ≡ z → (r : IsInReach z) → made id number group x y p q ≡ made id number group z y r q
same_x id number group x z y p q e =
    subst (λ (w : ℤ). (r : IsInReach w) → made id number group x y p q ≡ made id number group w y r q) e
    (λ r. ap (λ (s : IsInReach x). made id number group x y s q) (IsInReach-prop x p r))

same_numbers : (id i number n group g : ℕ) (x y : ℤ) (p : IsInReach x) (q : IsInReach y) → id ≡ i → number ≡ n → group ≡ g → made id number group x y p q ≡ made i n g x y p q
same_numbers id i number n group g x y p q a b c = λ t. made (a t) (b t) (c t) x y p q

pub one_anchor : (a b : Anchor) → a.id ≡ b.id → a.number ≡ b.number → a.group ≡ b.group → a.x ≡ b.x → a.y ≡ b.y → a ≡ b
one_anchor a b i n g x y =
    same_numbers a.id b.id a.number b.number a.group b.group a.x a.y a.x_in_range a.y_in_range i n g
    ∙ (same_x b.id b.number b.group a.x b.x a.y a.x_in_range a.y_in_range x b.x_in_range
    ∙ same_y b.id b.number b.group b.x a.y b.y b.x_in_range a.y_in_range y b.y_in_range)

-- ---- membership by recursion
pub here : {X : Type 0} (x : X) (xs : List X) → Contains (x ∷ xs) x
here x xs = (0, omega arith, refl)

pub later : {X : Type 0} (x : X) (xs : List X) (y : X) → Contains xs y → Contains (x ∷ xs) y
later x xs y c = let lt = c.1 in (suc c.0, omega arith, c.2)

pub nothing : {X : Type 0} (y : X) → Contains [] y → ⊥
nothing y c = let lt = c.1 in absurd (omega arith)

pub cases : {X : Type 0} (x : X) (xs : List X) (y : X) → Contains (x ∷ xs) y → (x ≡ y) ⊎ Contains xs y
cases x xs y c = by_place c.0 c.1 c.2
  where
    by_place : (k : ℕ) → k < length (x ∷ xs) → get_or (x ∷ xs) k y ≡ y → (x ≡ y) ⊎ Contains xs y
    by_place zero lt e = inl e
    by_place (suc k) lt e = inr (k, omega arith, e)

pub only_one : {X : Type 0} (x y : X) → Contains (x ∷ []) y → x ≡ y
only_one x y c = elim (cases x [] y c) [ inl e ↦ e | inr more ↦ absurd (nothing y more) ]

-- ---- lists that rise
pub rise_none : AnchorsRise []
rise_none i j lt past = absurd (omega arith)

pub rise_one : (a : Anchor) → AnchorsRise (a ∷ [])
rise_one a i j lt past = absurd (omega arith)

before_at : (a b c d : Anchor) → a ≡ c → b ≡ d → IsBefore c d → IsBefore a b
before_at a b c d e f h = subst (λ (z : Anchor). IsBefore z b) (sym e) (subst (IsBefore c) (sym f) h)

pub rise_append : (xs ys : List Anchor) → AnchorsRise xs → AnchorsRise ys → ((a b : Anchor) → Contains xs a → Contains ys b → IsBefore a b) → AnchorsRise (xs ++ ys)
rise_append xs ys up more before i j lt past =
    elim (cases_lt j (length xs)) [
      | inl jl ↦
          let il : i < length xs = omega arith in
          before_at (anchor_at (xs ++ ys) i) (anchor_at (xs ++ ys) j) (anchor_at xs i) (anchor_at xs j) (get_or_append_left xs ys nowhere i il) (get_or_append_left xs ys nowhere j jl) (up i j lt jl)
      | inr jr ↦ elim (cases_lt i (length xs)) [
        | inl il ↦
            before_at (anchor_at (xs ++ ys) i) (anchor_at (xs ++ ys) j) (anchor_at xs i) (anchor_at ys (j - length xs)) (get_or_append_left xs ys nowhere i il)
            (get_or-append_right xs ys (length xs) j nowhere refl jr) (before (anchor_at xs i) (anchor_at ys (j - length xs)) (at xs i il) (at ys (j - length xs) (within j jr past)))
        | inr ir ↦
            before_at (anchor_at (xs ++ ys) i) (anchor_at (xs ++ ys) j) (anchor_at ys (i - length xs)) (anchor_at ys (j - length xs)) (get_or-append_right xs ys (length xs) i nowhere refl ir)
            (get_or-append_right xs ys (length xs) j nowhere refl jr) (more (i - length xs) (j - length xs) (omega arith) (within j jr past))
      ]
    ]
  where
    at : (zs : List Anchor) (k : ℕ) → k < length zs → Contains zs (anchor_at zs k)
    at zs k lt = (k, lt, get_or_default zs k (anchor_at zs k) nowhere lt)

    within : (k : ℕ) → length xs ≤ k → k < length (xs ++ ys) → k - length xs < length ys
    within k from past = let whole = length-append xs ys in omega arith

-- ---- two lists that rise and hold the same anchors
pub both_before : (a b : Anchor) → IsBefore a b → IsBefore b a → ⊥
both_before a b h k = absurd (omega arith)

in_pairs : (xs : List Anchor) → AnchorsRise xs → AllPairs IsBefore xs
in_pairs xs up i j d lt past =
    subst (λ (a : Anchor). IsBefore a (get_or xs j d)) (get_or_default xs i nowhere d (omega arith))
    (subst (IsBefore (anchor_at xs i)) (get_or_default xs j nowhere d past) (up i j lt past))

pub same_anchors : (xs ys : List Anchor) → AnchorsRise xs → AnchorsRise ys → ((a : Anchor) → Contains xs a → Contains ys a) → ((a : Anchor) → Contains ys a → Contains xs a) → xs ≡ ys
same_anchors xs ys up more on back = same_lists IsBefore both_before xs ys (in_pairs xs up) (in_pairs ys more) on back

-- ---- groups of anchors
pub some_group : (xs : List Anchor) (g : ℕ) → g < group_count xs → (a : Anchor) × Contains xs a × (g ≤ a.group)
unfolding group_count
some_group [] g lt = absurd (omega arith)
some_group (x ∷ xs) g lt = elim (cases_lt x.group g) [
  | inl less ↦ let more = some_group xs g (omega arith) in (more.0, later x xs more.0 more.1, more.2)
  | inr high ↦ (x, here x xs, high)
]

pub has_group : (xs : List Anchor) (a : Anchor) → Contains xs a → (i : ℕ) × (i < length xs) × (group_at xs i ≡ a.group)
unfolding group_at
has_group xs a c = (c.0, c.1, ap (λ (z : Anchor). z.group) (get_or_default xs c.0 nowhere a c.1 ∙ c.2))
