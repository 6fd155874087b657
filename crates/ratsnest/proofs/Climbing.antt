-- On lists whose elements climb.
use Rattle.std.proofs.Common.{◌≡◌, ◌≢◌, ℕ, zero, suc, ◌≤◌, ◌<◌, ◌⊎◌, List, [], ◌∷◌, length, get_or, insert, inl, inr, refl, arith}
use Rattle.ratsnest.specs.Mem.{Mem, AllAbove, Climbs}

AllAbove-lower : {X : Type 0} (key : X → ℕ) (m n : ℕ) (xs : List X) → m ≤ n → AllAbove key n xs → AllAbove key m xs
AllAbove-lower key m n [] h a = tt
AllAbove-lower key m n (x ∷ xs) h a = (omega (arith, a.0), AllAbove-lower key m n xs h a.1)

AllAbove-insert : {X : Type 0} (key : X → ℕ) (n : ℕ) (xs : List X) (k : ℕ) (y : X) → AllAbove key n xs → n < key y → AllAbove key n (insert xs k y)
AllAbove-insert key n xs zero y a h = (h, a)
AllAbove-insert key n [] (suc k) y a h = (h, tt)
AllAbove-insert key n (x ∷ xs) (suc k) y a h = (a.0, AllAbove-insert key n xs k y a.1 h)

pub Climbs-insert : {X : Type 0} (key : X → ℕ) (xs : List X) (k : ℕ) (y : X) → Climbs key xs →
    ((i : ℕ) (d : X) → i < k → key (get_or xs i d) < key y) →
    ((d : X) → k < length xs → key y ≤ key (get_or xs k d)) →
    ((x : X) → Mem x xs → key x ≢ key y) → Climbs key (insert xs k y)
Climbs-insert key [] zero y c below stop other = (tt, tt)
Climbs-insert key [] (suc k) y c below stop other = (tt, tt)
Climbs-insert key (x ∷ xs) zero y c below stop other =
    let ne : key x ≢ key y = other x (inl refl) in
    let le : key y ≤ key x = stop x (omega arith) in
    let lt : key y < key x = omega arith in
    ((lt, AllAbove-lower key (key y) (key x) xs le c.0), c)
Climbs-insert key (x ∷ xs) (suc k) y c below stop other = (
  AllAbove-insert key (key x) xs k y c.0 (below 0 x (omega arith)),
  Climbs-insert key xs k y c.1 (λ i d h. below (suc i) d (omega arith)) (λ d h. stop d (omega arith)) (λ z m. other z (inr m)),
)

pub Mem-insert : {X : Type 0} (xs : List X) (k : ℕ) (y x : X) → Mem x xs ⊎ (x ≡ y) → Mem x (insert xs k y)
Mem-insert xs zero y x h = elim h [ inl m ↦ inr m | inr e ↦ inl e ]
Mem-insert [] (suc k) y x h = elim h [ inl m ↦ absurd m | inr e ↦ inl e ]
Mem-insert (z ∷ xs) (suc k) y x h = elim h [
  | inl m ↦ elim m [ inl e ↦ inl e | inr n ↦ inr (Mem-insert xs k y x (inl n)) ]
  | inr e ↦ inr (Mem-insert xs k y x (inr e))
]

pub Mem-insert_cases : {X : Type 0} (xs : List X) (k : ℕ) (y x : X) → Mem x (insert xs k y) → Mem x xs ⊎ (x ≡ y)
Mem-insert_cases xs zero y x h = elim h [ inl e ↦ inr e | inr m ↦ inl m ]
Mem-insert_cases [] (suc k) y x h = elim h [ inl e ↦ inr e | inr m ↦ absurd m ]
Mem-insert_cases (z ∷ xs) (suc k) y x h = elim h [
  | inl e ↦ inl (inl e)
  | inr m ↦ elim (Mem-insert_cases xs k y x m) [ inl n ↦ inl (inr n) | inr e ↦ inr e ]
]

above_at : {X : Type 0} (key : X → ℕ) (n : ℕ) (xs : List X) → AllAbove key n xs → (j : ℕ) (d : X) → j < length xs → n < key (get_or xs j d)
above_at key n [] a j d lt = absurd (omega arith)
above_at key n (x ∷ xs) a zero d lt = a.0
above_at key n (x ∷ xs) a (suc j) d lt = above_at key n xs a.1 j d (omega arith)

-- what stands before another is below it
pub climbs_at : {X : Type 0} (key : X → ℕ) (xs : List X) → Climbs key xs → (i j : ℕ) (d : X) → i < j → j < length xs → key (get_or xs i d) < key (get_or xs j d)
climbs_at key [] c i j d h lt = absurd (omega arith)
climbs_at key (x ∷ xs) c i zero d h lt = absurd (omega arith)
climbs_at key (x ∷ xs) c zero (suc j) d h lt = above_at key (key x) xs c.0 j d (omega arith)
climbs_at key (x ∷ xs) c (suc i) (suc j) d h lt = climbs_at key xs c.1 i j d (omega arith) (omega arith)
