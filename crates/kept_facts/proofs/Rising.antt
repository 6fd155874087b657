-- Lists of ids that rise.
use Rattle.std.proofs.Common.{◌≡◌, refl, sym, subst, ℕ, zero, suc, ◌+◌, ◌<◌, List, [], ◌∷◌, ◌++◌, length, get_or, take, Contains, arith}
use Rattle.std.specs.List.{AllPairs}
use Rattle.std.specs.List.Sorted.{IsStrictlyIncreasing}
use Rattle.std.proofs.lemmas.List.Kept.{AllPairs-from_increasing}

suc_plus : (j : ℕ) → suc j + 1 ≡ suc (j + 1)
suc_plus j = omega arith

-- one more that is above all
pub rise_push : (xs : List ℕ) (x : ℕ) → IsStrictlyIncreasing xs → ((y : ℕ) → Contains xs y → y < x) → IsStrictlyIncreasing (xs ++ x ∷ [])
rise_push [] x h below k lt = absurd (omega arith)
rise_push (a ∷ []) x h below zero lt = below a (0, omega arith, refl)
rise_push (a ∷ []) x h below (suc k) lt = absurd (omega arith)
rise_push (a ∷ b ∷ xs) x h below zero lt = h 0 (omega arith)
rise_push (a ∷ b ∷ xs) x h below (suc k) lt =
    let rest : IsStrictlyIncreasing (b ∷ xs) = λ j l. subst (λ (m : ℕ). get_or (b ∷ xs) j 0 < get_or (a ∷ b ∷ xs) m 0) (suc_plus j) (h (suc j) (omega arith)) in
    subst (λ (m : ℕ). get_or (b ∷ (xs ++ x ∷ [])) k 0 < get_or (a ∷ b ∷ (xs ++ x ∷ [])) m 0) (sym (suc_plus k)) (rise_push (b ∷ xs) x rest (λ y c. below y (suc c.0, omega (arith, c.1), c.2)) k (omega arith))

abbrev Pairs : List ℕ → Type 0
Pairs xs = AllPairs (λ (a b : ℕ). a < b) xs

tail : (x : ℕ) (xs : List ℕ) → Pairs (x ∷ xs) → Pairs xs
tail x xs p i j d h k = p (suc i) (suc j) d (omega arith) (omega arith)

below_pairs : (xs : List ℕ) → Pairs xs → (k : ℕ) → k < length xs → (y : ℕ) → Contains (take k xs) y → y < get_or xs k 0
below_pairs [] p k lt y c = absurd (omega arith)
below_pairs (x ∷ xs) p zero lt y c = absurd (omega (arith, c.1))
below_pairs (x ∷ xs) p (suc k) lt y (zero, l, e) = subst (λ (z : ℕ). z < get_or xs k 0) e (p 0 (suc k) 0 (omega arith) (omega arith))
below_pairs (x ∷ xs) p (suc k) lt y (suc j, l, e) = below_pairs xs (tail x xs p) k (omega arith) y (j, omega (arith, l), e)

-- those before a place are below what is there
pub below_at : (xs : List ℕ) → IsStrictlyIncreasing xs → (k : ℕ) → k < length xs → (y : ℕ) → Contains (take k xs) y → y < get_or xs k 0
below_at xs h = below_pairs xs (AllPairs-from_increasing xs h)
