-- Odd and even counts of the edges that pass to the right of a rational point, as a computed parity.
use Rattle.std.proofs.Common.{◌≡◌, ℕ, ◌+◌, ◌*◌, Bool, true, false, not, cond, count_by, List, [], ◌∷◌, refl, subst, inl, inr, arith}
use Rattle.std.proofs.lemmas.List.Recursion.{is_count_by}
use Rattle.geo_seg.specs.declared.points.Seg.{Seg}
use Rattle.geo_seg.specs.Points.{RationalPoint}
use Rattle.geo_seg.specs.Inside.{passes, IsOdd, SomeEdge}

abbrev pub differ : Bool → Bool → Bool
differ true b = not b
differ false b = b

-- an odd number of the edges passes to the right of p
abbrev pub is_odd : RationalPoint → List Seg → Bool
is_odd p [] = false
is_odd p (e ∷ es) = differ (passes p e) (is_odd p es)

abbrev pub IsEven : ℕ → Type 0
IsEven n = (k : ℕ) × (n ≡ 2 * k)

abbrev pub Parity : Bool → ℕ → Type 0
Parity true n = IsOdd n
Parity false n = IsEven n

-- the count by recursion
passing_count : RationalPoint → List Seg → ℕ
passing_count p [] = 0
passing_count p (e ∷ es) = cond (passes p e) (1 + passing_count p es) (passing_count p es)

passing_count-count_by : (p : RationalPoint) (es : List Seg) → passing_count p es ≡ count_by (passes p) es
unfolding passing_count
passing_count-count_by p es = is_count_by (passing_count p) (passes p) refl (λ e fs. refl) es

counted_one : (x y : Bool) (n : ℕ) → Parity y n → Parity (differ x y) (cond x (1 + n) n)
counted_one true true n h = (h.0 + 1, omega (arith, h.1))
counted_one true false n h = (h.0, omega (arith, h.1))
counted_one false true n h = h
counted_one false false n h = h

counted_up : (p : RationalPoint) (es : List Seg) → Parity (is_odd p es) (passing_count p es)
unfolding passing_count
counted_up p [] = (0, refl)
counted_up p (e ∷ es) = counted_one (passes p e) (is_odd p es) (passing_count p es) (counted_up p es)

counted : (p : RationalPoint) (es : List Seg) → Parity (is_odd p es) (count_by (passes p) es)
counted p es = subst (λ n. Parity (is_odd p es) n) (passing_count-count_by p es) (counted_up p es)

not_both : (n j k : ℕ) → n ≡ 2 * j + 1 → n ≡ 2 * k → ⊥
not_both n j k h e = omega (arith, h, e)

pub is_odd_of : (p : RationalPoint) (es : List Seg) → IsOdd (count_by (passes p) es) → is_odd p es ≡ true
is_odd_of p es h = by_parity (is_odd p es) (counted p es)
  where
    by_parity : (b : Bool) → Parity b (count_by (passes p) es) → b ≡ true
    by_parity true k = refl
    by_parity false k = absurd (not_both (count_by (passes p) es) h.0 k.0 h.1 k.1)

pub odd_of_is_odd : (p : RationalPoint) (es : List Seg) → is_odd p es ≡ true → IsOdd (count_by (passes p) es)
odd_of_is_odd p es e = subst (λ b. Parity b (count_by (passes p) es)) e (counted p es)

-- some edge passes
pub some_passes : (p : RationalPoint) (es : List Seg) → is_odd p es ≡ true → SomeEdge (λ e. passes p e ≡ true) es
some_passes p [] h = absurd (no h)
  where
    no : false ≡ true → ⊥
    no h = cc
some_passes p (e ∷ es) h = by_first (passes p e) refl h (some_passes p es)
  where
    by_first : (b : Bool) → passes p e ≡ b → differ b (is_odd p es) ≡ true → (is_odd p es ≡ true → SomeEdge (λ f. passes p f ≡ true) es) → SomeEdge (λ f. passes p f ≡ true) (e ∷ es)
    by_first true k l rest = inl k
    by_first false k l rest = inr (rest l)
