-- Filters of lists, and lists of entries by rising id.
use Rattle.std.proofs.Common.{◌≡◌, ◌≢◌, inl, inr, ◌∙◌, ap, sym, subst, refl, ℕ, ◌+◌, ◌<◌, ◌≤◌, suc, Bool, true, false, cond, not, ◌==◌, nat_lt, List, [], ◌∷◌, ◌++◌, length, take, drop, slice_index_or, arith}
use Rattle.std.specs.Prelude.{if◌then◌else◌, Result, Ok, Err, is_ok, IsOk}
use Rattle.std.specs.List.{filter, All, AllPairs, AllWithin, insert, remove}
use Rattle.std.specs.List.Sorted.{IsPartitionedBy}
use Rattle.std.proofs.lemmas.Bool.{cases_lt}
use Rattle.std.proofs.lemmas.Bool.Decides.{nat_tests}
use Rattle.std.proofs.lemmas.List.Elements.{All-head, All-tail, filter-append}
use Rattle.std.proofs.lemmas.List.{take-append-drop, length-take, length-drop, get_or-take, get_or-drop, append-nil, take_all, drop_all, drop_more, get_or_default, get_or_read}
use Rattle.box_index.specs.declared.entry.Entry.{Entry}
use Rattle.box_index.specs.Tiles.{IsRising, IsAbsent, placed, without}

-- the last of a rising list is below, so all are
pub all_below : (xs : List Entry) (id n : ℕ) (x : Entry) → IsRising xs → length xs ≡ n + 1 → (slice_index_or xs n x).id < id → AllWithin (λ e. e.id < id) xs 0 (length xs)
all_below xs id n x r long low = λ k d z l.
    let last : (slice_index_or xs n d).id ≡ (slice_index_or xs n x).id = ap (λ y. y.id) (get_or_default xs n d x (omega (arith, long))) in
    elim (cases_lt k n) [
      | inl b ↦ let up = r k n d b (omega (arith, long)) in omega (arith, up, last, low)
      | inr b ↦ let here : k ≡ n = omega (arith, b, l, long) in subst (λ j. (slice_index_or xs j d).id < id) (sym here) (omega (arith, last, low))
    ]

-- ---- filters
module _ {X : Type 0} where
  pub filter_all : (p : X → Bool) (xs : List X) → All (λ x. p x ≡ true) xs → filter p xs ≡ xs
  filter_all p [] h = refl
  filter_all p (x ∷ xs) h =
      ap (λ b. cond b (x ∷ filter p xs) (filter p xs)) (All-head (λ y. p y ≡ true) x xs h) ∙ ap (λ ys. x ∷ ys) (filter_all p xs (All-tail (λ y. p y ≡ true) x xs h))

  pub filter_none : (p : X → Bool) (xs : List X) → All (λ x. p x ≡ false) xs → filter p xs ≡ []
  filter_none p [] h = refl
  filter_none p (x ∷ xs) h =
      ap (λ b. cond b (x ∷ filter p xs) (filter p xs)) (All-head (λ y. p y ≡ false) x xs h) ∙ filter_none p xs (All-tail (λ y. p y ≡ false) x xs h)

  filter_cond : (p : X → Bool) (b : Bool) (x : X) (xs : List X) → filter p (cond b (x ∷ xs) xs) ≡ cond b (filter p (x ∷ xs)) (filter p xs)
  filter_cond p true x xs = refl
  filter_cond p false x xs = refl

  swap_conds : (a b : Bool) (x : X) (xs : List X) → cond b (cond a (x ∷ xs) xs) xs ≡ cond a (cond b (x ∷ xs) xs) xs
  swap_conds true true x xs = refl
  swap_conds true false x xs = refl
  swap_conds false true x xs = refl
  swap_conds false false x xs = refl

  -- two filters in either order
  pub filter_swap : (p q : X → Bool) (xs : List X) → filter p (filter q xs) ≡ filter q (filter p xs)
  filter_swap p q [] = refl
  filter_swap p q (x ∷ xs) =
      filter_cond p (q x) x (filter q xs)
      ∙ ap (λ ys. cond (q x) (cond (p x) (x ∷ ys) ys) ys) (filter_swap p q xs)
      ∙ swap_conds (p x) (q x) x (filter q (filter p xs))
      ∙ sym (filter_cond q (p x) x (filter p xs))

  -- a list of which the first k pass and the others fail, or the other way round
  within_prefix : (P : X → Type 0) (xs : List X) (k : ℕ) → AllWithin P xs 0 k → All P (take k xs)
  within_prefix P xs k h = λ i d l.
      let lt : i < k = omega (arith, length-take k xs) in
      subst P (sym (get_or-take k xs i d lt)) (h i d (omega arith) lt)

  within_back : (P : X → Type 0) (xs : List X) (k : ℕ) → AllWithin P xs k (length xs) → All P (drop k xs)
  within_back P xs k h = λ i d l.
      let lt : k + i < length xs = omega (arith, length-drop k xs) in
      subst P (sym (get_or-drop k xs i d)) (h (k + i) d (omega arith) lt)

  filter_parts : (p : X → Bool) (xs : List X) (k : ℕ) → filter p xs ≡ filter p (take k xs) ++ filter p (drop k xs)
  filter_parts p xs k = ap (filter p) (sym (take-append-drop k xs)) ∙ filter-append p (take k xs) (drop k xs)

  pub filter_prefix : (p : X → Bool) (xs : List X) (k : ℕ) → AllWithin (λ x. p x ≡ true) xs 0 k → AllWithin (λ x. p x ≡ false) xs k (length xs) → filter p xs ≡ take k xs
  filter_prefix p xs k h g =
      filter_parts p xs k
      ∙ ap (λ ys. ys ++ filter p (drop k xs)) (filter_all p (take k xs) (within_prefix (λ x. p x ≡ true) xs k h))
      ∙ ap (λ ys. take k xs ++ ys) (filter_none p (drop k xs) (within_back (λ x. p x ≡ false) xs k g))
      ∙ append-nil (take k xs)

  pub filter_back : (p : X → Bool) (xs : List X) (k : ℕ) → AllWithin (λ x. p x ≡ false) xs 0 k → AllWithin (λ x. p x ≡ true) xs k (length xs) → filter p xs ≡ drop k xs
  filter_back p xs k h g =
      filter_parts p xs k
      ∙ ap (λ ys. ys ++ filter p (drop k xs)) (filter_none p (take k xs) (within_prefix (λ x. p x ≡ false) xs k h))
      ∙ filter_all p (drop k xs) (within_back (λ x. p x ≡ true) xs k g)

  -- all but the element at k pass
  pub filter_but : (p : X → Bool) (xs : List X) (k : ℕ) (x : X) → k < length xs → x ≡ slice_index_or xs k x → AllWithin (λ x. p x ≡ true) xs 0 k → p x ≡ false → AllWithin (λ x. p x ≡ true) xs (k + 1) (length xs)
      → filter p xs ≡ remove xs k
  filter_but p xs k x l e h n g =
      let one : k + 1 ≡ suc k = omega arith in
      filter_parts p xs k
      ∙ ap (λ ys. ys ++ filter p (drop k xs)) (filter_all p (take k xs) (within_prefix (λ x. p x ≡ true) xs k h))
      ∙ ap (λ ys. take k xs ++ filter p ys) {y = x ∷ drop (k + 1) xs} (drop_more xs k x l ∙ ap (λ y. y ∷ drop (k + 1) xs) (sym e))
      ∙ ap (λ b. take k xs ++ cond b (x ∷ filter p (drop (k + 1) xs)) (filter p (drop (k + 1) xs))) n
      ∙ ap (λ ys. take k xs ++ ys) (filter_all p (drop (k + 1) xs) (within_back (λ x. p x ≡ true) xs (k + 1) g))
      ∙ ap (λ m. take k xs ++ drop m xs) one

  -- ---- each and each later one
  pub pairs_first : (R : X → X → Type 0) (x : X) (xs : List X) → AllPairs R (x ∷ xs) → All (R x) xs
  pairs_first R x xs h = λ k d l. h 0 (suc k) d (omega arith) (omega arith)

  pub pairs_rest : (R : X → X → Type 0) (x : X) (xs : List X) → AllPairs R (x ∷ xs) → AllPairs R xs
  pairs_rest R x xs h = λ i j d l m. h (suc i) (suc j) d (omega arith) (omega arith)

-- ---- by rising id
pub below_true : (a b : ℕ) → a < b → nat_lt a b ≡ true
below_true a b h = grind (arith, nat_tests)

pub below_false : (a b : ℕ) → b ≤ a → nat_lt a b ≡ false
below_false a b h = grind (arith, nat_tests)

pub not_below : (a b : ℕ) → nat_lt a b ≡ false → b ≤ a
not_below a b h = grind (arith, nat_tests)

pub is_below : (a b : ℕ) → nat_lt a b ≡ true → a < b
is_below a b h = grind (arith, nat_tests)

parted_at : (id a b : ℕ) (i j : ℕ) → i ≤ j → (i < j → a < b) → (i ≡ j → a ≡ b) → nat_lt b id ≡ true → nat_lt a id ≡ true
parted_at id a b i j l r e h = grind (arith, nat_tests)

pub parted : (id : ℕ) (xs : List Entry) → IsRising xs → IsPartitionedBy (λ (e : Entry). nat_lt e.id id) xs
parted id xs r = λ i j d l m h. parted_at id _ _ i j l (λ s. r i j d s m) (λ e. ap (λ k. (slice_index_or xs k d).id) e) h

pub same_test : (a b : ℕ) → a ≢ b → not (a == b) ≡ true
same_test a b h = grind (arith, nat_tests)

pub other_test : (a b : ℕ) → a ≡ b → not (a == b) ≡ false
other_test a b h = grind (arith, nat_tests)

-- k entries have lesser ids
pub record IsSplit (id : ℕ) (xs : List Entry) (k : ℕ) : Type 0 where
  pub below : AllWithin (λ e. e.id < id) xs 0 k
  pub from : AllWithin (λ e. id ≤ e.id) xs k (length xs)

pub placed_at : (e : Entry) (xs : List Entry) (k : ℕ) → IsSplit e.id xs k → IsAbsent e.id xs → insert xs k e ≡ placed e xs
placed_at e xs k s a =
    let low = filter_prefix (λ (x : Entry). nat_lt x.id e.id) xs k (λ i d l h. below_true _ _ (s.below i d l h)) (λ i d l h. below_false _ _ (s.from i d l h)) in
    let high = filter_back (λ (x : Entry). nat_lt e.id x.id) xs k (λ i d l h. below_false _ _ (let b = s.below i d l h in omega arith)) (λ i d l h. below_true _ _ (let f = s.from i d l h in let n = a i d h in omega arith)) in
    ap (λ ys. ys ++ e ∷ drop k xs) (sym low) ∙ ap (λ ys. filter (λ (x : Entry). nat_lt x.id e.id) xs ++ e ∷ ys) (sym high)

above_it : (a b id x : ℕ) → a < b → x ≡ a → x ≡ id → b ≢ id
above_it a b id x h e g = omega arith

pub removed_at : (id : ℕ) (xs : List Entry) (k : ℕ) (x : Entry) → IsSplit id xs k → IsRising xs → k < length xs → x ≡ slice_index_or xs k x → x.id ≡ id → remove xs k ≡ without id xs
removed_at id xs k x s r l e h =
    sym (filter_but (λ (y : Entry). not (y.id == id)) xs k x l e (λ i d m n. same_test _ _ (let b = s.below i d m n in omega arith)) (other_test _ _ h)
    (λ i d m n. same_test _ _ (above_it _ _ _ _ (r k i d (omega arith) n) (ap (λ (v : Entry). v.id) (get_or_read xs k x l e d)) h)))

none_index : (i k id a b : ℕ) → (i < k → a < id) → (k ≤ i → id ≤ b) → (k < i → b < a) → (k ≤ i → b ≢ id) → (k ≡ i → b ≡ a) → a ≢ id
none_index i k id a b f g h n s = grind (arith, f, g, h, n, s)

pub absent_at : (id : ℕ) (xs : List Entry) (k : ℕ) → IsSplit id xs k → IsRising xs → ((d : Entry) → k < length xs → (slice_index_or xs k d).id ≢ id) → IsAbsent id xs
absent_at id xs k s r n = λ i d l.
    none_index i k id _ (slice_index_or xs k d).id (λ m. s.below i d (omega arith) m) (λ m. s.from k d (omega arith) (omega arith)) (λ m. r k i d m l) (λ m. n d (omega arith)) (λ m. ap (λ j. (slice_index_or xs j d).id) m)

pub none_at : (id : ℕ) (xs : List Entry) → IsAbsent id xs → xs ≡ without id xs
none_at id xs n = sym (filter_all (λ (y : Entry). not (y.id == id)) xs (λ i d l. same_test _ _ (n i d l)))

-- ---- for the code
pub inserted : {T E : Type 0} (r : Result T E) (now xs : List Entry) (e : Entry) (k : ℕ) → now ≡ (if is_ok r then insert xs k e else xs) → IsOk r → IsSplit e.id xs k → IsAbsent e.id xs → now ≡ placed e xs
inserted (Ok v) now xs e k h o s a = h ∙ placed_at e xs k s a
inserted (Err v) now xs e k h o s a = cc

pub put_last : (now xs : List Entry) (e : Entry) (k : ℕ) → now ≡ xs ++ e ∷ [] → k ≡ length xs → IsSplit e.id xs k → IsAbsent e.id xs → now ≡ placed e xs
put_last now xs e k h end s a =
    let ends : insert xs k e ≡ xs ++ e ∷ [] = ap (λ ys. ys ++ e ∷ drop k xs) (take_all k xs (omega (arith, end))) ∙ ap (λ ys. xs ++ e ∷ ys) (drop_all k xs (omega (arith, end))) in
    h ∙ sym ends ∙ placed_at e xs k s a

pub same_place : (xs : List Entry) (k : ℕ) (x y : Entry) → k < length xs → x ≡ slice_index_or xs k x → y ≡ slice_index_or xs k y → x.id ≡ y.id
same_place xs k x y l e g = ap (λ (v : Entry). v.id) (get_or_read xs k x l e y ∙ sym g)
