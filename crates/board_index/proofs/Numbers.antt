-- Lists of numbers that rise.
use Rattle.std.proofs.Common.{◌≡◌, ◌⊎◌, inl, inr, subst, ℕ, zero, suc, ◌+◌, ◌<◌, List, [], ◌∷◌, ◌++◌, All, Contains, arith}
use Rattle.std.specs.List.{AllPairs}
use Rattle.std.specs.List.Sorted.{IsStrictlyIncreasing}
use Rattle.std.proofs.lemmas.List.Elements.{All-nil, All-cons, All-append, All-weaker, Contains-append_left, Contains-push}
use Rattle.box_index.specs.Tiles.{numbers_below}
use Rattle.box_index.proofs.Buckets.{pairs_append}

abbrev Rises : List ℕ → Type 0
Rises xs = AllPairs (λ a b. a < b) xs

pub low_numbers : (n : ℕ) → All (λ i. i < n) (numbers_below n)
unfolding numbers_below
low_numbers zero = All-nil (λ i. i < 0)
low_numbers (suc n) = All-append (λ i. i < suc n) (numbers_below n) (n ∷ []) (All-weaker (λ i. i < n) (λ i. i < suc n) (λ i l. omega arith) (numbers_below n) (low_numbers n)) (All-cons (λ i. i < suc n) n [] (omega arith) (All-nil (λ i. i < suc n)))

rising_numbers : (n : ℕ) → Rises (numbers_below n)
unfolding numbers_below
rising_numbers zero = λ i j d l m. absurd (omega arith)
rising_numbers (suc n) =
    let R : ℕ → ℕ → Type 0 = λ a b. a < b in
    pairs_append R (numbers_below n) (n ∷ []) (rising_numbers n) (λ i j d l m. absurd (omega arith)) (All-weaker (λ i. i < n) (λ i. All (R i) (n ∷ [])) (λ i l. All-cons (R i) n [] l (All-nil (R i))) (numbers_below n) (low_numbers n))

increasing : (xs : List ℕ) → Rises xs → IsStrictlyIncreasing xs
increasing xs h k l = h k (k + 1) 0 (omega arith) l

pub all_rise : (n : ℕ) → IsStrictlyIncreasing (numbers_below n)
all_rise n = increasing (numbers_below n) (rising_numbers n)

pub has_number : (n k : ℕ) → k < n → Contains (numbers_below n) k
unfolding numbers_below
has_number zero k l = absurd (omega arith)
has_number (suc n) k l = by_last (has_number n k) (last_case n k l)
  where
    last_case : (m i : ℕ) → i < suc m → (i < m) ⊎ (m ≡ i)
    last_case m i h = grind arith

    by_last : (k < n → Contains (numbers_below n) k) → (k < n) ⊎ (n ≡ k) → Contains (numbers_below n ++ n ∷ []) k
    by_last again (inl h) = Contains-append_left (numbers_below n) (n ∷ []) k (again h)
    by_last again (inr e) = subst (Contains (numbers_below n ++ n ∷ [])) e (Contains-push (numbers_below n) n)
