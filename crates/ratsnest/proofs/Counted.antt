-- On counts of flags.
use Rattle.std.proofs.Common.{◌≡◌, ◌≢◌, ℕ, ◌+◌, ◌*◌, ◌≤◌, ◌<◌, Bool, true, false, cond, List, length, get_or, set, replicate, count_by, inl, inr, sym, ◌∙◌, ap, arith}
use Rattle.std.proofs.lemmas.Bool.{cases_eq, cases_Bool}
use Rattle.std.proofs.lemmas.List.{get_or-set_same, get_or-set_other, get_or-replicate, length-set, length-replicate, same_lists, get_or_default}
use Rattle.std.proofs.lemmas.List.Sums.{sum_by-set}
use Rattle.std.proofs.lemmas.List.Folds.{sum_by-replicate}

abbrev flag : Bool → ℕ
flag b = cond b 1 0

-- one flag less
pub counted_less : (xs : List Bool) (i : ℕ) → i < length xs → get_or xs i true ≡ true → count_by (λ b. b) (set xs i false) + 1 ≡ count_by (λ b. b) xs
counted_less xs i l h =
    let e : count_by (λ b. b) (set xs i false) + flag (get_or xs i true) ≡ count_by (λ b. b) xs + 0 =
    sum_by-set flag xs i false true l in
    let z : flag (get_or xs i true) ≡ 1 = ap flag h in
    omega arith

pub counted_none : (xs : List Bool) → ((i : ℕ) → i < length xs → get_or xs i true ≡ false) → count_by (λ b. b) xs ≡ 0
counted_none xs h =
    let e : xs ≡ replicate (length xs) false =
    same_lists xs (replicate (length xs) false) (sym (length-replicate (length xs) false))
    (λ k d l. get_or_default xs k d true l ∙ h k l ∙ sym (get_or-replicate (length xs) k false d l)) in
    let n : count_by (λ b. b) (replicate (length xs) false) ≡ length xs * 0 = sum_by-replicate flag (length xs) false in
    ap (count_by (λ b. b)) e ∙ n ∙ omega arith

pub counted_all : (n : ℕ) → count_by (λ b. b) (replicate n true) ≡ n
counted_all n =
    let e : count_by (λ b. b) (replicate n true) ≡ n * 1 = sum_by-replicate flag n true in
    e ∙ omega arith

-- one flag alone
pub counted_one : (xs : List Bool) (i : ℕ) → i < length xs → get_or xs i true ≡ true → ((k : ℕ) → k < length xs → get_or xs k true ≡ true → k ≡ i) →
    count_by (λ b. b) xs ≡ 1
counted_one xs i l h only =
    let none : count_by (λ b. b) (set xs i false) ≡ 0 =
    counted_none (set xs i false) (λ k hk. elim (cases_eq k i) [
      | inl e ↦ ap (λ z. get_or (set xs i false) z true) e ∙ get_or-set_same xs i false true l
      | inr n ↦ get_or-set_other xs i k false true n ∙ elim (cases_Bool (get_or xs k true)) [
        | inl y ↦ absurd (n (only k (omega (arith, hk, length-set xs i false)) y))
        | inr z ↦ z
      ]
    ]) in
    omega (arith, counted_less xs i l h, none)

-- two flags
pub counted_two : (xs : List Bool) (i j : ℕ) → i < length xs → j < length xs → i ≢ j → get_or xs i true ≡ true → get_or xs j true ≡ true → 2 ≤ count_by (λ b. b) xs
counted_two xs i j hi hj ne ei ej =
    let less : count_by (λ b. b) (set xs i false) + 1 ≡ count_by (λ b. b) xs = counted_less xs i hi ei in
    let still : get_or (set xs i false) j true ≡ true = get_or-set_other xs i j false true (λ q. ne (sym q)) ∙ ej in
    omega (arith, less, counted_less (set xs i false) j (omega (arith, hj, length-set xs i false)) still)
