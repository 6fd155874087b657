-- Whether a number is found in a rising list.
use Rattle.std.proofs.Common.{◌≡◌, ap, sym, ◌∙◌, ℕ, ◌<◌, ◌≤◌, nat_eq, List, length, slice_index_or, arith, eq-eqb}
use Rattle.std.specs.Prelude.{Result, Ok, Err, is_ok, MatchResult}
use Rattle.std.specs.List.Sorted.{IsBinarySearchResult, IsStrictlyIncreasing}
use Rattle.std.specs.Ordering.{nat_cmp}
use Rattle.std.proofs.lemmas.Bool.{ne_eqb}
use Rattle.std.proofs.lemmas.List.Sorted.{searched}
use Rattle.std.proofs.lemmas.List.Kept.{AllPairs-from_increasing}
use Rattle.std.proofs.lemmas.List.Folds.{list_any_at, list_any_none}
use Rattle.std.proofs.lemmas.List.{get_or_default}
use Rattle.board_laws.specs.Edits.{is_one_of}

le_pair : (a b i j : ℕ) → i ≤ j → (i < j → a < b) → (i ≡ j → a ≡ b) → a ≤ b
le_pair a b i j l f g = grind (arith, f, g)

differ_at : (k i y x : ℕ) → (k < i → y < x) → (i ≤ k → x < y) → y ≡ x → ⊥
differ_at k i y x f g e = grind (arith, f, g, e)

found : (xs : List ℕ) (x : ℕ) (r : Result ℕ ℕ) → MatchResult r (λ i. (i < length xs) × (slice_index_or xs i 0 ≡ x)) (λ i. (i ≤ length xs) × ((k : ℕ) → k < i → slice_index_or xs k 0 < x) × ((k : ℕ) → i ≤ k → k < length xs → x < slice_index_or xs k 0)) → is_ok r ≡ is_one_of xs x
found xs x (Ok i) h = sym (list_any_at (λ c. nat_eq c x) xs i 0 h.0 (eq-eqb _ _ h.1))
found xs x (Err i) h = sym (list_any_none (λ c. nat_eq c x) xs (λ k d l. ne_eqb _ _ (λ e. differ_at k i _ x (λ m. h.1 k m) (λ m. h.2 k m l) (get_or_default xs k 0 d l ∙ e))))

pub found_is : (xs : List ℕ) (x : ℕ) (r : Result ℕ ℕ) → IsBinarySearchResult (λ y. nat_cmp y x) xs r → IsStrictlyIncreasing xs → is_ok r ≡ is_one_of xs x
found_is xs x r h up =
    let pairs = AllPairs-from_increasing xs up in
    found xs x r (searched xs x r h (λ i j l m. le_pair _ _ i j l (λ s. pairs i j 0 s m) (λ e. ap (λ k. slice_index_or xs k 0) e)))
