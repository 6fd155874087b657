-- The hand of a seat that is alone: it has all numbers in their order.
use Rattle.std.proofs.Common.{◌≡◌, ◌⊎◌, inl, inr, ◌∙◌, ℕ, zero, suc, ◌+◌, ◌<◌, ◌≤◌, List, [], ◌∷◌, length, get_or, if◌then◌else◌, nat_eq, sum_by, All, AllPairs, sym, ap, subst, refl, arith, eq-eqb, ne_eqb}
use Rattle.std.proofs.lemmas.Bool.{cases_lt}
use Rattle.std.proofs.lemmas.Bool.Decides.{nat_tests}
use Rattle.std.proofs.lemmas.List.Sums.{sum_by-cons, get_or-le-sum_by}
use native.Mathlib.Decide.{ℕ_discrete}
use Rattle.claim_board.specs.DealMachine.{times, once_below}
use Rattle.tile_pool.specs.NumberedValues.{AreAnswers, AreValues}

-- ---- where a number stands
abbrev Stands : ℕ → List ℕ → Type 0
Stands x xs = (j : ℕ) × (j < length xs) × ((d : ℕ) → get_or xs j d ≡ x)

found_by : (x y : ℕ) (ys : List ℕ) → Dec (y ≡ x) → (0 < times x ys → Stands x ys) → 0 < times x (y ∷ ys) → Stands x (y ∷ ys)
found_by x y ys (yes s) later h = (0, omega arith, λ d. s)
found_by x y ys (no ne) later h =
    let counted : times x (y ∷ ys) ≡ (if nat_eq y x then 1 else 0) + times x ys = sum_by-cons (λ z. if nat_eq z x then 1 else 0) y ys in
    let none : times x (y ∷ ys) ≡ times x ys = counted ∙ ap (λ b. (if b then 1 else 0) + times x ys) (ne_eqb y x ne) ∙ omega arith in
    let there = later (omega (arith, none, h)) in (suc there.0, let l = there.1 in omega (arith, l), there.2)

found : (x : ℕ) (xs : List ℕ) → 0 < times x xs → Stands x xs
found x [] h = absurd (omega arith)
found x (y ∷ ys) h = found_by x y ys (ℕ_discrete y x) (found x ys) h

stands : (x : ℕ) (xs : List ℕ) (j : ℕ) → j < length xs → get_or xs j 0 ≡ x → 0 < times x xs
stands x xs j l e =
    let least : (if nat_eq (get_or xs j 0) x then 1 else 0) ≤ times x xs = get_or-le-sum_by (λ z. if nat_eq z x then 1 else 0) xs j 0 l in
    let counts : 1 ≤ times x xs = subst (λ b. (if b then 1 else 0) ≤ times x xs) (eq-eqb (get_or xs j 0) x e) least in omega (arith, counts)

once_at : (x n : ℕ) → x < n → once_below x n ≡ 1
once_at x n l = grind (arith, nat_tests)

none_past : (x n : ℕ) → n ≤ x → once_below x n ≡ 0
none_past x n l = grind (arith, nat_tests)

module _ (n : ℕ) (hand : List ℕ) (once : (x : ℕ) → times x hand ≡ once_below x n) (rise : AllPairs (λ x y. x < y) hand) where
  above : (k : ℕ) → k < length hand → k ≤ get_or hand k 0
  above zero l = omega arith
  above (suc k) l = let before = above k (omega arith) in let up = rise k (suc k) 0 (omega arith) l in omega (arith, before, up)

  has : (k : ℕ) → k < n → 0 < times k hand
  has k l = let e = once k in let one = once_at k n l in omega (arith, e, one)

  -- where all below stand at their places, so does this one
  at_place : (k : ℕ) → Stands k hand → ((i : ℕ) → i < k → get_or hand i 0 ≡ i) → (k < length hand) × (get_or hand k 0 ≡ k)
  at_place k there before = at (cases_lt there.0 k)
    where
      at : (there.0 < k) ⊎ (k ≤ there.0) → (k < length hand) × (get_or hand k 0 ≡ k)
      at (inl low) = let own = before there.0 low in let here = there.2 0 in absurd (omega (arith, own, here, low))
      at (inr high) =
          let up = above there.0 there.1 in let here = there.2 0 in
          let same : there.0 ≡ k = omega (arith, up, here, high) in (subst (λ j. j < length hand) same there.1, subst (λ j. get_or hand j 0 ≡ k) same here)

  one_more : (k i : ℕ) → i < suc k → (i < k) ⊎ (k ≤ i) → ((j : ℕ) → j < k → (j < length hand) × (get_or hand j 0 ≡ j)) → (k < length hand) × (get_or hand k 0 ≡ k) → (i < length hand) × (get_or hand i 0 ≡ i)
  one_more k i m (inl low) before own = before i low
  one_more k i m (inr high) before own = let same : k ≡ i = omega arith in subst (λ j. (j < length hand) × (get_or hand j 0 ≡ j)) same own

  below : (k : ℕ) → k ≤ n → (i : ℕ) → i < k → (i < length hand) × (get_or hand i 0 ≡ i)
  below zero l i m = absurd (omega arith)
  below (suc k) l i m =
      one_more k i m (cases_lt i k) (below k (omega arith)) (at_place k (found k hand (has k (omega arith))) (λ j low. (below k (omega arith) j low).1))

  no_more : (n < length hand) → ⊥
  no_more l =
      let up = above n l in
      let some = stands (get_or hand n 0) hand n l refl in
      let e = once (get_or hand n 0) in
      let none = none_past (get_or hand n 0) n up in omega (arith, some, e, none)

  enough : (k : ℕ) → k ≡ n → n ≤ length hand
  enough zero e = omega arith
  enough (suc k) e = let last = (below n (omega arith) k (omega arith)).0 in omega (arith, last, e)

  pub all_numbers : length hand ≡ n
  all_numbers = go (cases_lt n (length hand))
    where
      go : (n < length hand) ⊎ (length hand ≤ n) → length hand ≡ n
      go (inl more) = absurd (no_more more)
      go (inr fit) = let least = enough n refl in omega (arith, least, fit)

  pub in_order : {X : Type 0} (G : ℕ → X → Type 0) (batch : List X) → AreValues G hand batch → AreAnswers G n batch
  in_order {X} G batch values = record {
    long = values.0 ∙ all_numbers;
    each = λ k d l. subst (λ j. G j (get_or batch k d)) (below n (omega arith) k l).1 (values.1 k 0 d (let e = values.0 in let m = all_numbers in omega (arith, e, m, l)));
  }

-- one hand alone, and its batch
pub alone_in_order : {X : Type 0} (G : ℕ → X → Type 0) (n : ℕ) (hands : List (List ℕ)) (batch : List X) → length hands ≡ 1 → ((x : ℕ) → sum_by (times x) hands ≡ once_below x n) → All (λ xs. AllPairs (λ x y. x < y) xs) hands → AreValues G (get_or hands 0 []) batch → AreAnswers G n batch
alone_in_order G n [] batch one once rise values = absurd (omega (arith, one))
alone_in_order G n (hand ∷ []) batch one once rise values = in_order n hand (λ x. sym (sum_by-cons (times x) hand [] ∙ omega arith) ∙ once x) (rise 0 [] (omega arith)) G batch values
alone_in_order G n (hand ∷ other ∷ hands) batch one once rise values = absurd (omega (arith, one))
