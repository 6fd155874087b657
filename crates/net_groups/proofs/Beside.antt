-- Numbers that stand beside ids, by their places.
use Rattle.std.proofs.Common.{◌≡◌, ℕ, zero, suc, ◌<◌, ◌≤◌, Bool, true, false, cond, nat_eq, List, [], ◌∷◌, length, get_or, set, replicate, Contains, Option, None, inl, inr, refl, sym, ap, ◌∙◌, arith, eq-eqb, nat_cmp}
use Rattle.std.specs.Prelude.{Result, Ok, Err, MatchResult}
use Rattle.std.specs.List.Sorted.{IsBinarySearchResult}
use Rattle.std.proofs.lemmas.Bool.{cases_eq, cases_lt, ne_eqb, eqb-true}
use Rattle.std.proofs.lemmas.List.{get_or_default}
use Rattle.std.proofs.lemmas.List.Sorted.{searched}
use Rattle.net_groups.specs.ConnectedClasses.{Rises}
use Rattle.net_groups.specs.Numbering.{number_of}

-- ---- the place of an id
rises_weakly : (ids : List ℕ) → Rises ids → (i j : ℕ) → i ≤ j → j < length ids → get_or ids i 0 ≤ get_or ids j 0
rises_weakly ids rises i j le past = elim (cases_eq i j) [
  | inl same ↦ let e : get_or ids i 0 ≡ get_or ids j 0 = ap (λ k. get_or ids k 0) same in omega arith
  | inr other ↦ let less = rises i j 0 (omega arith) past in omega arith
]

sought_by : (ids : List ℕ) (id : ℕ) → Contains ids id → (r : Result ℕ ℕ)
    → MatchResult r (λ i. (i < length ids) × (get_or ids i 0 ≡ id)) (λ i. (i ≤ length ids) × ((k : ℕ) → k < i → get_or ids k 0 < id) × ((k : ℕ) → i ≤ k → k < length ids → id < get_or ids k 0))
    → MatchResult r (λ i. (i < length ids) × (get_or ids i 0 ≡ id)) (λ i. ⊥)
sought_by ids id c (Ok i) h = h
sought_by ids id c (Err i) h =
    let at : get_or ids c.0 0 ≡ id = get_or_default ids c.0 0 id c.1 ∙ c.2 in
    elim (cases_lt c.0 i) [
      | inl low ↦ let less = h.1 c.0 low in absurd (omega arith)
      | inr high ↦ let more = h.2 c.0 (omega arith) c.1 in absurd (omega arith)
    ]

pub sought_is : (ids : List ℕ) → Rises ids → (id : ℕ) → Contains ids id → (r : Result ℕ ℕ) → IsBinarySearchResult (λ y. nat_cmp y id) ids r
    → MatchResult r (λ i. (i < length ids) × (get_or ids i 0 ≡ id)) (λ i. ⊥)
sought_is ids rises id c r h = sought_by ids id c r (searched ids id r h (rises_weakly ids rises))

-- ---- what stands beside an id
rest : (a : ℕ) (ids : List ℕ) → Rises (a ∷ ids) → Rises ids
rest a ids rises = λ i j d lt past. rises (suc i) (suc j) d (omega arith) (omega arith)

pub number_none : (ids : List ℕ) (n id : ℕ) → number_of ids (replicate n None) id ≡ None
number_none [] n id = refl
number_none (a ∷ ids) zero id = refl
number_none (a ∷ ids) (suc n) id = by (nat_eq a id) (number_none ids n id)
  where
    by : (b : Bool) → number_of ids (replicate n None) id ≡ None → cond b None (number_of ids (replicate n None) id) ≡ None
    by true h = refl
    by false h = h

pub number_at : (ids : List ℕ) → Rises ids → (numbers : List (Option ℕ)) → length numbers ≡ length ids → (k : ℕ) → k < length ids → number_of ids numbers (get_or ids k 0) ≡ get_or numbers k None
number_at [] rises numbers many k lt = absurd (omega arith)
number_at (a ∷ ids) rises [] many k lt = absurd (omega arith)
number_at (a ∷ ids) rises (n ∷ numbers) many zero lt = ap (λ b. cond b n (number_of ids numbers a)) (eq-eqb a a refl)
number_at (a ∷ ids) rises (n ∷ numbers) many (suc k) lt =
    let less : a < get_or ids k 0 = rises 0 (suc k) 0 (omega arith) lt in
    ap (λ b. cond b n (number_of ids numbers (get_or ids k 0))) (ne_eqb a (get_or ids k 0) (λ e. omega arith))
    ∙ number_at ids (rest a ids rises) numbers (omega arith) k (omega arith)

-- one number more
pub number_set : (ids : List ℕ) → Rises ids → (numbers : List (Option ℕ)) → length numbers ≡ length ids → (k : ℕ) → k < length ids → (x : Option ℕ) (id : ℕ)
    → number_of ids (set numbers k x) id ≡ cond (nat_eq (get_or ids k 0) id) x (number_of ids numbers id)
number_set [] rises numbers many k lt x id = absurd (omega arith)
number_set (a ∷ ids) rises [] many k lt x id = absurd (omega arith)
number_set (a ∷ ids) rises (n ∷ numbers) many zero lt x id = by (nat_eq a id)
  where
    by : (b : Bool) → cond b x (number_of ids numbers id) ≡ cond b x (cond b n (number_of ids numbers id))
    by true = refl
    by false = refl
number_set (a ∷ ids) rises (n ∷ numbers) many (suc k) lt x id = by (nat_eq a id) refl (number_set ids (rest a ids rises) numbers (omega arith) k (omega arith) x id)
  where
    by : (b : Bool) → nat_eq a id ≡ b → number_of ids (set numbers k x) id ≡ cond (nat_eq (get_or ids k 0) id) x (number_of ids numbers id)
        → cond b n (number_of ids (set numbers k x) id) ≡ cond (nat_eq (get_or ids k 0) id) x (cond b n (number_of ids numbers id))
    by true e more =
        let same : a ≡ id = eqb-true a id e in
        let less : a < get_or ids k 0 = rises 0 (suc k) 0 (omega arith) lt in
        sym (ap (λ b. cond b x n) (ne_eqb (get_or ids k 0) id (λ f. omega arith)))
    by false e more = more
