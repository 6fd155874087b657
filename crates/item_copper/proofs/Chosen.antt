-- Lists of which a test chooses some.
use Rattle.std.proofs.Common.{◌≡◌, ◌↔◌, ℕ, zero, suc, ◌+◌, ◌<◌, ◌≤◌, Bool, true, false, cond, List, [], ◌∷◌, length, get_or, IsTrue, All, Contains, refl, sym, subst, arith}
use Rattle.std.specs.List.{Any, AllWithin, filter}
use Rattle.std.proofs.lemmas.List.Elements.{All-nil, All-cons, All-head, All-tail, AllWithin-more, AllWithin-upto, All-from_all_within, at_read}
use Rattle.geo_seg.proofs.Choices.{surely, surely_not}

-- what holds of each that is chosen
pub chosen_from : {X : Type 0} (Q : X → Type 0) (test : X → Bool) (xs : List X) → All (λ x. IsTrue (test x) → Q x) xs → All Q (filter test xs)
chosen_from Q test [] a = All-nil Q
chosen_from Q test (x ∷ xs) a = by_test (test x) refl (chosen_from Q test xs (All-tail (λ y. IsTrue (test y) → Q y) x xs a))
  where
    by_test : (b : Bool) → test x ≡ b → All Q (filter test xs) → All Q (cond b (x ∷ filter test xs) (filter test xs))
    by_test true e h = All-cons Q x (filter test xs) (All-head (λ y. IsTrue (test y) → Q y) x xs a e) h
    by_test false e h = h

pub chosen_to : {X : Type 0} (Q : X → Type 0) (test : X → Bool) (xs : List X) → All Q (filter test xs) → All (λ x. IsTrue (test x) → Q x) xs
chosen_to Q test [] a = All-nil (λ x. IsTrue (test x) → Q x)
chosen_to Q test (x ∷ xs) a = by_test (test x) refl (chosen_to Q test xs) a
  where
    by_test : (b : Bool) → test x ≡ b → (All Q (filter test xs) → All (λ y. IsTrue (test y) → Q y) xs)
        → All Q (cond b (x ∷ filter test xs) (filter test xs)) → All (λ y. IsTrue (test y) → Q y) (x ∷ xs)
    by_test true e on h = All-cons (λ y. IsTrue (test y) → Q y) x xs (λ t. All-head Q x (filter test xs) h) (on (All-tail Q x (filter test xs) h))
    by_test false e on h = All-cons (λ y. IsTrue (test y) → Q y) x xs (λ t. absurd (cc)) (on h)

-- one that is chosen
chosen_one : {X : Type 0} (test : X → Bool) (xs : List X) (i : ℕ) (x : X) → i < length xs → x ≡ get_or xs i x → IsTrue (test x) → Contains (filter test xs) x
chosen_one test [] i x lt e chosen = absurd (omega arith)
chosen_one test (y ∷ ys) zero x lt e chosen = by_test (test y) refl
  where
    by_test : (b : Bool) → test y ≡ b → Contains (cond b (y ∷ filter test ys) (filter test ys)) x
    by_test true f = (0, omega arith, sym e)
    by_test false f = let same : x ≡ y = e in absurd (cc)
chosen_one test (y ∷ ys) (suc i) x lt e chosen = by_test (test y) refl (chosen_one test ys i x (omega arith) e chosen)
  where
    by_test : (b : Bool) → test y ≡ b → Contains (filter test ys) x → Contains (cond b (y ∷ filter test ys) (filter test ys)) x
    by_test true f h = (suc h.0, omega arith, h.2)
    by_test false f h = h

pub some_chosen : {X : Type 0} (P : X → Type 0) (test : X → Bool) (xs : List X) (i : ℕ) (x : X) → i < length xs → x ≡ get_or xs i x → IsTrue (test x) → P x → Any P (filter test xs)
some_chosen P test xs i x lt e chosen p = let c = chosen_one test xs i x lt e chosen in (c.0, x, c.1, c.2, p)

pub none_chosen : {X : Type 0} (P : X → Type 0) (test : X → Bool) (xs : List X) (i : ℕ) → length xs ≤ i → AllWithin (λ x. IsTrue (test x) → ¬ (P x)) xs 0 i → Any P (filter test xs) → ⊥
none_chosen P test xs i last a some =
    let within = AllWithin-upto (λ x. IsTrue (test x) → ¬ (P x)) xs 0 i (length xs) last a in
    let none = chosen_from (λ x. ¬ (P x)) test xs (All-from_all_within (λ x. IsTrue (test x) → ¬ (P x)) xs within) in
    none some.0 some.1 some.2 (subst P (sym some.3) some.4)

-- one more of the first ones
-- a walk over them: it stops at one for which P holds, or comes to the end without one
pub surely_chosen : {X : Type 0} (P : X → Type 0) (test : X → Bool) (xs : List X) (i : ℕ) (x : X) → i < length xs → x ≡ get_or xs i x → IsTrue (test x) → P x → (IsTrue true ↔ Any P (filter test xs))
surely_chosen P test xs i x lt e chosen p = surely true refl (some_chosen P test xs i x lt e chosen p)

pub surely_none_chosen : {X : Type 0} (P : X → Type 0) (test : X → Bool) (xs : List X) (i : ℕ) → length xs ≤ i → AllWithin (λ x. IsTrue (test x) → ¬ (P x)) xs 0 i → (IsTrue false ↔ Any P (filter test xs))
surely_none_chosen P test xs i last a = surely_not false refl (none_chosen P test xs i last a)

pub one_more : {X : Type 0} (P : X → Type 0) (xs : List X) (i : ℕ) (x : X) → i < length xs → x ≡ get_or xs i x → P x → AllWithin P xs 0 i → AllWithin P xs 0 (i + 1)
one_more P xs i x lt e p a = AllWithin-more P xs 0 i a (at_read xs P i x lt e p)

pub not_false : (b : Bool) → b ≡ false → IsTrue b → ⊥
not_false b e t = cc
