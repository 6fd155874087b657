-- A list whose elements are rewritten one by one, from the first on.
use Rattle.std.proofs.Common.{◌≡◌, ℕ, zero, suc, ◌+◌, ◌<◌, ◌≤◌, List, [], ◌∷◌, length, get_or, set, sym, ap, subst, arith, add-one}
use Rattle.std.specs.List.{AllZip}

-- the first i elements are each related to the old ones, and the others are as they were
abbrev pub Rewritten : {X : Type 0} → (X → X → Type 0) → ℕ → List X → List X → Type 0
Rewritten R zero old now = old ≡ now
Rewritten R (suc i) [] now = [] ≡ now
Rewritten R (suc i) (x ∷ xs) [] = ⊥
Rewritten R (suc i) (x ∷ xs) (y ∷ ys) = R x y × Rewritten R i xs ys

-- the next one is as it was
pub not_yet : {X : Type 0} (R : X → X → Type 0) (i : ℕ) (old now : List X) → Rewritten R i old now → (d : X) → get_or now i d ≡ get_or old i d
not_yet R zero old now h d = ap (λ l. get_or l 0 d) (sym h)
not_yet R (suc i) [] now h d = ap (λ l. get_or l (suc i) d) (sym h)
not_yet R (suc i) (x ∷ xs) [] h d = absurd h
not_yet R (suc i) (x ∷ xs) (y ∷ ys) h d = not_yet R i xs ys h.1 d

next_written : {X : Type 0} (R : X → X → Type 0) (i : ℕ) (old now : List X) (d v : X) → Rewritten R i old now → i < length now → R (get_or now i d) v → Rewritten R (suc i) old (set now i v)
next_written R zero [] [] d v h lt r = absurd (omega arith)
next_written R zero [] (y ∷ ys) d v h lt r = absurd cc
next_written R zero (x ∷ xs) [] d v h lt r = absurd cc
next_written R zero (x ∷ xs) (y ∷ ys) d v h lt r = let same : y ≡ x = cc in let rest : xs ≡ ys = cc in (subst (λ z. R z v) same r, rest)
next_written R (suc i) [] [] d v h lt r = absurd (omega arith)
next_written R (suc i) [] (y ∷ ys) d v h lt r = absurd cc
next_written R (suc i) (x ∷ xs) [] d v h lt r = absurd h
next_written R (suc i) (x ∷ xs) (y ∷ ys) d v h lt r = (h.0, next_written R i xs ys d v h.1 (omega arith) r)

pub one_written : {X : Type 0} (R : X → X → Type 0) (i : ℕ) (old now : List X) (d v : X) → Rewritten R i old now → i < length now → R (get_or now i d) v → Rewritten R (i + 1) old (set now i v)
one_written R i old now d v h lt r = subst (λ n. Rewritten R n old (set now i v)) (sym (add-one i)) (next_written R i old now d v h lt r)

same_all : {X : Type 0} (R : X → X → Type 0) (old now : List X) → old ≡ now → length now ≤ 0 → AllZip R old now
same_all R [] [] e le = tt
same_all R [] (y ∷ ys) e le = absurd (omega arith)
same_all R (x ∷ xs) [] e le = absurd cc
same_all R (x ∷ xs) (y ∷ ys) e le = absurd (omega arith)

pub all_written : {X : Type 0} (R : X → X → Type 0) (i : ℕ) (old now : List X) → Rewritten R i old now → length now ≤ i → AllZip R old now
all_written R zero old now h le = same_all R old now h le
all_written R (suc i) [] [] h le = tt
all_written R (suc i) [] (y ∷ ys) h le = absurd cc
all_written R (suc i) (x ∷ xs) [] h le = absurd h
all_written R (suc i) (x ∷ xs) (y ∷ ys) h le = (h.0, all_written R i xs ys h.1 (omega arith))
