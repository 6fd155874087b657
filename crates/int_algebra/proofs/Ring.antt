-- Polynomial identities over ℤ by computation. An identity is written as two `Expr`, and `ring` proves that they have
-- one value at any numbers, where the normal form of their difference has no coefficient but 0.
use Rattle.std.proofs.Common.{◌≡◌, ℕ, zero, suc, ◌+◌, ℤ, pos, negsuc, ◌+ℤ◌, ◌-ℤ◌, ◌*ℤ◌, neg_ℤ, Bool, true, false, ◌&&◌, T, List, [], ◌∷◌, refl, sym, ap, subst, ◌∙◌}
use Rattle.std.proofs.Math.IntN.{+ℤ_comm}
use Rattle.int_algebra.proofs.IntLaws.{mul_assoc_z, add_mul_z, add_zero_z, zero_add_z, mul_one_z, one_mul_z, zero_mul_z, minus_one_mul_z, sub_zero_same, mul_zero_z, mul_swap_inner, regroup_left, regroup_right, regroup_here, gather, gather_right, add_both, same_sub_zero, sub_through}
use lib.Dec.{eqb→eq, compare_is_eq}
use Prim.Native.Nat as Nat
use Prim.Native.Nat.{compare, Ordering}

infixl 6 ◌⊕◌ ◌⊖◌
infixl 7 ◌⊗◌
pub data Expr : Type 0 where
  var : ℕ → Expr
  num : ℤ → Expr
  ◌⊕◌ : Expr → Expr → Expr
  ◌⊖◌ : Expr → Expr → Expr
  ◌⊗◌ : Expr → Expr → Expr
  minus : Expr → Expr

abbrev pub sq : Expr → Expr
sq e = e ⊗ e

-- the i-th number, and 1 past the end
abbrev pub at : List ℤ → ℕ → ℤ
at [] i = pos 1
at (x ∷ xs) zero = x
at (x ∷ xs) (suc i) = at xs i

abbrev pub value : Expr → List ℤ → ℤ
value (var i) xs = at xs i
value (num c) xs = c
value (a ⊕ b) xs = value a xs +ℤ value b xs
value (a ⊖ b) xs = value a xs -ℤ value b xs
value (a ⊗ b) xs = value a xs *ℤ value b xs
value (minus a) xs = neg_ℤ (value a xs)

-- a monomial is the list of its exponents
abbrev pub power : ℤ → ℕ → ℤ
power x zero = pos 1
power x (suc n) = x *ℤ power x n

abbrev pub mono_value : List ℕ → List ℤ → ℤ
mono_value [] xs = pos 1
mono_value (e ∷ es) [] = pos 1
mono_value (e ∷ es) (x ∷ xs) = power x e *ℤ mono_value es xs

abbrev pub mono_of : ℕ → List ℕ
mono_of zero = 1 ∷ []
mono_of (suc i) = 0 ∷ mono_of i

abbrev pub mono_times : List ℕ → List ℕ → List ℕ
mono_times [] fs = fs
mono_times (e ∷ es) [] = e ∷ es
mono_times (e ∷ es) (f ∷ fs) = (e + f) ∷ mono_times es fs

pub data Place : Type 0 where
  before : Place
  here : Place
  after : Place

abbrev pub first_of_place : Ordering → Place → Place
first_of_place Ordering.lt p = before
first_of_place Ordering.eq p = p
first_of_place Ordering.gt p = after

abbrev pub place : List ℕ → List ℕ → Place
place [] [] = here
place [] (f ∷ fs) = before
place (e ∷ es) [] = after
place (e ∷ es) (f ∷ fs) = first_of_place (compare e f) (place es fs)

-- a polynomial: a search tree of monomials with their coefficients
pub data Polynomial : Type 0 where
  leaf : Polynomial
  node : Polynomial → List ℕ → ℤ → Polynomial → Polynomial

abbrev pub polynomial_value : Polynomial → List ℤ → ℤ
polynomial_value leaf xs = pos 0
polynomial_value (node l m c r) xs = c *ℤ mono_value m xs +ℤ (polynomial_value l xs +ℤ polynomial_value r xs)

abbrev pub plus : List ℕ → ℤ → Polynomial → Polynomial
plus m c leaf = node leaf m c leaf
plus m c (node l k d r) = elim (place m k) as (λ p. Polynomial) [ before ↦ node (plus m c l) k d r | here ↦ node l k (c +ℤ d) r | after ↦ node l k d (plus m c r) ]

-- acc plus c times m times p
abbrev pub plus_scaled : Polynomial → List ℕ → ℤ → Polynomial → Polynomial
plus_scaled leaf m c acc = acc
plus_scaled (node l k d r) m c acc = plus_scaled r m c (plus_scaled l m c (plus (mono_times m k) (c *ℤ d) acc))

-- acc plus p times q
abbrev pub plus_product : Polynomial → Polynomial → Polynomial → Polynomial
plus_product leaf q acc = acc
plus_product (node l k d r) q acc = plus_product r q (plus_product l q (plus_scaled q k d acc))

abbrev pub norm : Expr → Polynomial
norm (var i) = node leaf (mono_of i) (pos 1) leaf
norm (num c) = node leaf [] c leaf
norm (a ⊕ b) = plus_scaled (norm b) [] (pos 1) (norm a)
norm (a ⊖ b) = plus_scaled (norm b) [] (negsuc 0) (norm a)
norm (a ⊗ b) = plus_product (norm a) (norm b) leaf
norm (minus a) = plus_scaled (norm a) [] (negsuc 0) leaf

abbrev pub is_zero : ℤ → Bool
is_zero (pos zero) = true
is_zero (pos (suc n)) = false
is_zero (negsuc n) = false

abbrev pub all_zero : Polynomial → Bool
all_zero leaf = true
all_zero (node l m c r) = is_zero c && (all_zero l && all_zero r)

-- ---- soundness

power-add : (x : ℤ) (m n : ℕ) → power x (m + n) ≡ power x m *ℤ power x n
power-add x zero n = rw Nat.add.zero (sym (one_mul_z (power x n)))
power-add x (suc m) n = rw Nat.add.suc (ap (λ y. x *ℤ y) (power-add x m n) ∙ sym (mul_assoc_z x (power x m) (power x n)))

mono_of_value : (i : ℕ) (xs : List ℤ) → mono_value (mono_of i) xs ≡ at xs i
mono_of_value zero [] = refl
mono_of_value zero (x ∷ xs) = mul_one_z (x *ℤ pos 1) ∙ mul_one_z x
mono_of_value (suc i) [] = refl
mono_of_value (suc i) (x ∷ xs) = one_mul_z (mono_value (mono_of i) xs) ∙ mono_of_value i xs

times_value : (m k : List ℕ) (xs : List ℤ) → mono_value (mono_times m k) xs ≡ mono_value m xs *ℤ mono_value k xs
times_value [] k xs = sym (one_mul_z (mono_value k xs))
times_value (e ∷ es) [] xs = sym (mul_one_z (mono_value (e ∷ es) xs))
times_value (e ∷ es) (f ∷ fs) [] = refl
times_value (e ∷ es) (f ∷ fs) (x ∷ xs) =
    ap (λ y. y *ℤ mono_value (mono_times es fs) xs) (power-add x e f) ∙ ap (λ y. power x e *ℤ power x f *ℤ y) (times_value es fs xs) ∙ mul_swap_inner (power x e) (power x f) (mono_value es xs) (mono_value fs xs)

place_head : (e f : ℕ) (es fs : List ℕ) (o : Ordering) → compare e f ≡ o → first_of_place o (place es fs) ≡ here → (place es fs ≡ here → es ≡ fs) → (e ∷ es) ≡ (f ∷ fs)
place_head e f es fs Ordering.lt q h ih = cc
place_head e f es fs Ordering.eq q h ih = let same : e ≡ f = eqb→eq e f (subst T (sym (ap compare_is_eq q)) tt) in let rest : es ≡ fs = ih h in cc
place_head e f es fs Ordering.gt q h ih = cc

place-here : (m k : List ℕ) → place m k ≡ here → m ≡ k
place-here [] [] h = refl
place-here [] (f ∷ fs) h = cc
place-here (e ∷ es) [] h = cc
place-here (e ∷ es) (f ∷ fs) h = place_head e f es fs (compare e f) refl h (place-here es fs)

plus_at : (m : List ℕ) (c : ℤ) (l : Polynomial) (k : List ℕ) (d : ℤ) (r : Polynomial) (xs : List ℤ) → polynomial_value (plus m c l) xs ≡ c *ℤ mono_value m xs +ℤ polynomial_value l xs → polynomial_value (plus m c r) xs ≡ c *ℤ mono_value m xs +ℤ polynomial_value r xs → (o : Place) → place m k ≡ o → polynomial_value (elim o as (λ p. Polynomial) [ before ↦ node (plus m c l) k d r | here ↦ node l k (c +ℤ d) r | after ↦ node l k d (plus m c r) ]) xs ≡ c *ℤ mono_value m xs +ℤ (d *ℤ mono_value k xs +ℤ (polynomial_value l xs +ℤ polynomial_value r xs))
plus_at m c l k d r xs hl hr before e = ap (λ y. d *ℤ mono_value k xs +ℤ (y +ℤ polynomial_value r xs)) hl ∙ regroup_left (d *ℤ mono_value k xs) (c *ℤ mono_value m xs) (polynomial_value l xs) (polynomial_value r xs)
plus_at m c l k d r xs hl hr here e = ap (λ y. y +ℤ (polynomial_value l xs +ℤ polynomial_value r xs)) (add_mul_z c d (mono_value k xs)) ∙ ap (λ n. c *ℤ mono_value n xs +ℤ d *ℤ mono_value k xs +ℤ (polynomial_value l xs +ℤ polynomial_value r xs)) (sym (place-here m k e)) ∙ regroup_here (c *ℤ mono_value m xs) (d *ℤ mono_value k xs) (polynomial_value l xs +ℤ polynomial_value r xs)
plus_at m c l k d r xs hl hr after e = ap (λ y. d *ℤ mono_value k xs +ℤ (polynomial_value l xs +ℤ y)) hr ∙ regroup_right (d *ℤ mono_value k xs) (c *ℤ mono_value m xs) (polynomial_value l xs) (polynomial_value r xs)

plus_value : (m : List ℕ) (c : ℤ) (p : Polynomial) (xs : List ℤ) → polynomial_value (plus m c p) xs ≡ c *ℤ mono_value m xs +ℤ polynomial_value p xs
plus_value m c leaf xs = ap (λ y. c *ℤ mono_value m xs +ℤ y) (add_zero_z (pos 0))
plus_value m c (node l k d r) xs = plus_at m c l k d r xs (plus_value m c l xs) (plus_value m c r xs) (place m k) refl

scaled_value : (p : Polynomial) (m : List ℕ) (c : ℤ) (acc : Polynomial) (xs : List ℤ) → polynomial_value (plus_scaled p m c acc) xs ≡ c *ℤ mono_value m xs *ℤ polynomial_value p xs +ℤ polynomial_value acc xs
scaled_value leaf m c acc xs = sym (ap (λ y. y +ℤ polynomial_value acc xs) (mul_zero_z (c *ℤ mono_value m xs)) ∙ zero_add_z (polynomial_value acc xs))
scaled_value (node l k d r) m c acc xs =
    let first = plus (mono_times m k) (c *ℤ d) acc in
    scaled_value r m c (plus_scaled l m c first) xs
    ∙ ap (λ y. c *ℤ mono_value m xs *ℤ polynomial_value r xs +ℤ y) (scaled_value l m c first xs
    ∙ ap (λ y. c *ℤ mono_value m xs *ℤ polynomial_value l xs +ℤ y) (plus_value (mono_times m k) (c *ℤ d) acc xs
    ∙ ap (λ y. y +ℤ polynomial_value acc xs) (ap (λ y. c *ℤ d *ℤ y) (times_value m k xs) ∙ mul_swap_inner c d (mono_value m xs) (mono_value k xs))))
    ∙ gather (c *ℤ mono_value m xs) (d *ℤ mono_value k xs) (polynomial_value l xs) (polynomial_value r xs) (polynomial_value acc xs)

product_value : (p q acc : Polynomial) (xs : List ℤ) → polynomial_value (plus_product p q acc) xs ≡ polynomial_value p xs *ℤ polynomial_value q xs +ℤ polynomial_value acc xs
product_value leaf q acc xs = sym (ap (λ y. y +ℤ polynomial_value acc xs) (zero_mul_z (polynomial_value q xs)) ∙ zero_add_z (polynomial_value acc xs))
product_value (node l k d r) q acc xs =
    let first = plus_scaled q k d acc in
    product_value r q (plus_product l q first) xs
    ∙ ap (λ y. polynomial_value r xs *ℤ polynomial_value q xs +ℤ y) (product_value l q first xs
    ∙ ap (λ y. polynomial_value l xs *ℤ polynomial_value q xs +ℤ y) (scaled_value q k d acc xs))
    ∙ gather_right (d *ℤ mono_value k xs) (polynomial_value l xs) (polynomial_value r xs) (polynomial_value q xs) (polynomial_value acc xs)

norm_value : (e : Expr) (xs : List ℤ) → polynomial_value (norm e) xs ≡ value e xs
norm_value (var i) xs = ap (λ y. y +ℤ (pos 0 +ℤ pos 0)) (one_mul_z (mono_value (mono_of i) xs) ∙ mono_of_value i xs) ∙ add_zero_z (at xs i)
norm_value (num c) xs = ap (λ y. y +ℤ (pos 0 +ℤ pos 0)) (mul_one_z c) ∙ add_zero_z c
norm_value (a ⊕ b) xs = scaled_value (norm b) [] (pos 1) (norm a) xs ∙ ap (λ y. y +ℤ polynomial_value (norm a) xs) (ap (λ y. pos 1 *ℤ y) (norm_value b xs) ∙ one_mul_z (value b xs)) ∙ ap (λ y. value b xs +ℤ y) (norm_value a xs) ∙ +ℤ_comm (value b xs) (value a xs)
norm_value (a ⊖ b) xs = scaled_value (norm b) [] (negsuc 0) (norm a) xs ∙ ap (λ y. y +ℤ polynomial_value (norm a) xs) (ap (λ y. negsuc 0 *ℤ y) (norm_value b xs) ∙ minus_one_mul_z (value b xs)) ∙ ap (λ y. neg_ℤ (value b xs) +ℤ y) (norm_value a xs) ∙ +ℤ_comm (neg_ℤ (value b xs)) (value a xs)
norm_value (a ⊗ b) xs = product_value (norm a) (norm b) leaf xs ∙ add_zero_z (polynomial_value (norm a) xs *ℤ polynomial_value (norm b) xs) ∙ ap (λ y. y *ℤ polynomial_value (norm b) xs) (norm_value a xs) ∙ ap (λ y. value a xs *ℤ y) (norm_value b xs)
norm_value (minus a) xs = scaled_value (norm a) [] (negsuc 0) leaf xs ∙ add_zero_z (negsuc 0 *ℤ polynomial_value (norm a) xs) ∙ ap (λ y. negsuc 0 *ℤ y) (norm_value a xs) ∙ minus_one_mul_z (value a xs)

both-true : (a b : Bool) → T (a && b) → T a × T b
both-true true true h = (tt, tt)
both-true true false h = absurd h
both-true false b h = absurd h

is_zero-zero : (c : ℤ) → T (is_zero c) → c ≡ pos 0
is_zero-zero (pos zero) h = refl
is_zero-zero (pos (suc n)) h = absurd h
is_zero-zero (negsuc n) h = absurd h

all_zero_value : (p : Polynomial) (xs : List ℤ) → T (all_zero p) → polynomial_value p xs ≡ pos 0
all_zero_value leaf xs h = refl
all_zero_value (node l m c r) xs h =
    let h1 = both-true (is_zero c) (all_zero l && all_zero r) h in
    let h2 = both-true (all_zero l) (all_zero r) h1.1 in
    ap (λ y. y *ℤ mono_value m xs +ℤ (polynomial_value l xs +ℤ polynomial_value r xs)) (is_zero-zero c h1.0)
    ∙ ap (λ y. y +ℤ (polynomial_value l xs +ℤ polynomial_value r xs)) (zero_mul_z (mono_value m xs))
    ∙ ap (λ y. pos 0 +ℤ (y +ℤ polynomial_value r xs)) (all_zero_value l xs h2.0)
    ∙ ap (λ y. pos 0 +ℤ (pos 0 +ℤ y)) (all_zero_value r xs h2.1)

pub ring : (xs : List ℤ) (a b : Expr) → T (all_zero (norm (a ⊖ b))) → value a xs ≡ value b xs
ring xs a b h = sub_zero_same (value a xs) (value b xs) (sym (norm_value (a ⊖ b) xs) ∙ all_zero_value (norm (a ⊖ b)) xs h)

-- ---- an identity that follows from equations

-- left ≡ right, to be used times a factor
pub data Fact : Type 0 where
  fact : Expr → Expr → Expr → Fact

abbrev pub Holds : List Fact → List ℤ → Type 0
Holds [] xs = Unit {0}
Holds (fact c l r ∷ fs) xs = (value l xs ≡ value r xs) × Holds fs xs

abbrev pub combination : List Fact → Expr
combination [] = num (pos 0)
combination (fact c l r ∷ fs) = c ⊗ (l ⊖ r) ⊕ combination fs

combination_zero : (fs : List Fact) (xs : List ℤ) → Holds fs xs → value (combination fs) xs ≡ pos 0
combination_zero [] xs h = refl
combination_zero (fact c l r ∷ fs) xs h =
    add_both (value c xs *ℤ (value l xs -ℤ value r xs)) (value (combination fs) xs)
    (ap (λ y. value c xs *ℤ y) (same_sub_zero (value l xs) (value r xs) h.0) ∙ mul_zero_z (value c xs))
    (combination_zero fs xs h.1)

-- a ≡ b, where a - b is the sum of each fact's factor times its left side less its right side
pub ring_by : (xs : List ℤ) (fs : List Fact) → Holds fs xs → (a b : Expr) → T (all_zero (norm (a ⊖ b ⊖ combination fs))) → value a xs ≡ value b xs
ring_by xs fs hs a b h =
    sub_through (value a xs) (value b xs) (value (combination fs) xs) (combination_zero fs xs hs)
    (sym (norm_value (a ⊖ b ⊖ combination fs) xs) ∙ all_zero_value (norm (a ⊖ b ⊖ combination fs)) xs h)
