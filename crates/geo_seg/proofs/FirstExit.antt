-- A point moves on a line from where some numbers are all at least 0 to where one of them is below 0: on the way there is
-- a first place at which one of them is 0 and none is below. A pair is such a number's value where the line begins, and
-- at its other end.
use Rattle.std.proofs.Common.{◌≡◌, ℤ, pos, ◌+ℤ◌, ◌*ℤ◌, neg_ℤ, ◌≤ℤ◌, ◌<ℤ◌, ◌⊎◌, List, [], ◌∷◌, inl, inr, arith}
use Rattle.std.proofs.lemmas.Int.{ints, by_lt_z}
use Rattle.int_algebra.proofs.Ring.{var, num, ◌⊕◌, ◌⊖◌, ◌⊗◌, minus, ring}
use Rattle.int_algebra.proofs.Order.{product-nonneg, sum-nonneg, lt-le, unscale_le, le_by}

pub record Course : Type 0 where
  pub begin : ℤ
  pub end : ℤ

abbrev pub AllBegin : List Course → Type 0
AllBegin [] = Unit {0}
AllBegin (g ∷ gs) = (pos 0 ≤ℤ g.begin) × AllBegin gs

abbrev pub AllEnd : List Course → Type 0
AllEnd [] = Unit {0}
AllEnd (g ∷ gs) = (pos 0 ≤ℤ g.end) × AllEnd gs

abbrev pub AllAt : ℤ → ℤ → List Course → Type 0
AllAt c k [] = Unit {0}
AllAt c k (g ∷ gs) = (pos 0 ≤ℤ (c *ℤ g.begin +ℤ k *ℤ g.end)) × AllAt c k gs

abbrev pub SomeAt : ℤ → ℤ → List Course → Type 0
SomeAt c k [] = ⊥
SomeAt c k (g ∷ gs) = (c *ℤ g.begin +ℤ k *ℤ g.end ≡ pos 0) ⊎ SomeAt c k gs

pub record Exit (gs : List Course) : Type 0 where
  pub stay : ℤ
  pub move : ℤ
  pub stays : pos 0 <ℤ stay
  pub moves : pos 0 ≤ℤ move
  pub inside : AllAt stay move gs
  pub edge : SomeAt stay move gs

-- a later exit's others stay inside at an earlier one: c p + k x < 0 where q, y stays inside at c, k
earlier : (p x q y c k : ℤ) → pos 0 ≤ℤ p → pos 0 ≤ℤ q → pos 0 <ℤ c → x <ℤ pos 0 → (c *ℤ p +ℤ k *ℤ x) <ℤ pos 0 → pos 0 ≤ℤ (c *ℤ q +ℤ k *ℤ y) → pos 0 ≤ℤ (neg_ℤ x *ℤ q +ℤ p *ℤ y)
earlier p x q y c k hp hq hc hx hv hi = by_lt_z y (pos 0) down level
  where
    nx : pos 0 ≤ℤ neg_ℤ x
    nx = omega (arith, ints)

    nv : (v : ℤ) → v <ℤ pos 0 → pos 0 ≤ℤ neg_ℤ v
    nv v h = omega (arith, ints)

    level : pos 0 ≤ℤ y → pos 0 ≤ℤ (neg_ℤ x *ℤ q +ℤ p *ℤ y)
    level hy = sum-nonneg (neg_ℤ x *ℤ q) (p *ℤ y) (product-nonneg (neg_ℤ x) q nx hq) (product-nonneg p y hp hy)

    down : y <ℤ pos 0 → pos 0 ≤ℤ (neg_ℤ x *ℤ q +ℤ p *ℤ y)
    down hy =
        let P = var 0 in let X = var 1 in let Q = var 2 in let Y = var 3 in let C = var 4 in let K = var 5 in
        let t = neg_ℤ x *ℤ (c *ℤ q +ℤ k *ℤ y) +ℤ neg_ℤ y *ℤ neg_ℤ (c *ℤ p +ℤ k *ℤ x) in
        let ht : pos 0 ≤ℤ t = sum-nonneg (neg_ℤ x *ℤ (c *ℤ q +ℤ k *ℤ y)) (neg_ℤ y *ℤ neg_ℤ (c *ℤ p +ℤ k *ℤ x)) (product-nonneg (neg_ℤ x) (c *ℤ q +ℤ k *ℤ y) nx hi) (product-nonneg (neg_ℤ y) (neg_ℤ (c *ℤ p +ℤ k *ℤ x)) (nv y hy) (nv (c *ℤ p +ℤ k *ℤ x) hv)) in
        unscale_le c (pos 0) (neg_ℤ x *ℤ q +ℤ p *ℤ y) hc (le_by (c *ℤ pos 0) (c *ℤ (neg_ℤ x *ℤ q +ℤ p *ℤ y)) t (ring (p ∷ x ∷ q ∷ y ∷ c ∷ k ∷ []) (C ⊗ (minus X ⊗ Q ⊕ P ⊗ Y) ⊖ C ⊗ num (pos 0)) (minus X ⊗ (C ⊗ Q ⊕ K ⊗ Y) ⊕ minus Y ⊗ minus (C ⊗ P ⊕ K ⊗ X)) tt) ht)

-- where one goes below 0, at its own time, the ones that never go below stay inside
all_earlier : (p x c k : ℤ) → pos 0 ≤ℤ p → pos 0 <ℤ c → x <ℤ pos 0 → (c *ℤ p +ℤ k *ℤ x) <ℤ pos 0 → (gs : List Course) → AllBegin gs → AllAt c k gs → AllAt (neg_ℤ x) p gs
all_earlier p x c k hp hc hx hv [] hb ha = tt
all_earlier p x c k hp hc hx hv (g ∷ gs) hb ha = (earlier p x g.begin g.end c k hp hb.0 hc hx hv ha.0, all_earlier p x c k hp hc hx hv gs hb.1 ha.1)

all_stay : (c k : ℤ) → pos 0 ≤ℤ c → pos 0 ≤ℤ k → (gs : List Course) → AllBegin gs → AllEnd gs → AllAt c k gs
all_stay c k hc hk [] hb he = tt
all_stay c k hc hk (g ∷ gs) hb he = (sum-nonneg (c *ℤ g.begin) (k *ℤ g.end) (product-nonneg c g.begin hc hb.0) (product-nonneg k g.end hk he.0), all_stay c k hc hk gs hb.1 he.1)

own : (p x : ℤ) → neg_ℤ x *ℤ p +ℤ p *ℤ x ≡ pos 0
own p x = ring (p ∷ x ∷ []) (minus (var 1) ⊗ var 0 ⊕ var 0 ⊗ var 1) (num (pos 0)) tt

at_zero : (z : ℤ) → z ≡ pos 0 → pos 0 ≤ℤ z
at_zero z h = omega (arith, ints)

neg-pos : (x : ℤ) → x <ℤ pos 0 → pos 0 <ℤ neg_ℤ x
neg-pos x h = omega (arith, ints)

-- the sum is below 0 only if x is
goes_down : (p x c k : ℤ) → pos 0 ≤ℤ p → pos 0 <ℤ c → pos 0 ≤ℤ k → (c *ℤ p +ℤ k *ℤ x) <ℤ pos 0 → x <ℤ pos 0
goes_down p x c k hp hc hk hv = by_lt_z x (pos 0) (λ h. h) (λ h. absurd (clash (c *ℤ p +ℤ k *ℤ x) (sum-nonneg (c *ℤ p) (k *ℤ x) (product-nonneg c p (lt-le (pos 0) c hc) hp) (product-nonneg k x hk h)) hv))
  where
    clash : (v : ℤ) → pos 0 ≤ℤ v → v <ℤ pos 0 → ⊥
    clash v h k = omega (arith, ints)

step : (g : Course) (gs : List Course) → pos 0 ≤ℤ g.begin → AllBegin gs → AllEnd gs ⊎ Exit gs → AllEnd (g ∷ gs) ⊎ Exit (g ∷ gs)
step g gs h hs (inl e) = by_lt_z g.end (pos 0)
    (λ l. inr (record { stay = neg_ℤ g.end; move = g.begin; stays = neg-pos g.end l; moves = h; inside = (at_zero (neg_ℤ g.end *ℤ g.begin +ℤ g.begin *ℤ g.end) (own g.begin g.end), all_stay (neg_ℤ g.end) g.begin (lt-le (pos 0) (neg_ℤ g.end) (neg-pos g.end l)) h gs hs e); edge = inl (own g.begin g.end) }))
    (λ l. inl (l, e))
step g gs h hs (inr x) = by_lt_z (x.stay *ℤ g.begin +ℤ x.move *ℤ g.end) (pos 0)
    (λ l. let d = goes_down g.begin g.end x.stay x.move h x.stays x.moves l in
    inr (record { stay = neg_ℤ g.end; move = g.begin; stays = neg-pos g.end d; moves = h; inside = (at_zero (neg_ℤ g.end *ℤ g.begin +ℤ g.begin *ℤ g.end) (own g.begin g.end), all_earlier g.begin g.end x.stay x.move h x.stays d l gs hs x.inside); edge = inl (own g.begin g.end) }))
    (λ l. inr (record { stay = x.stay; move = x.move; stays = x.stays; moves = x.moves; inside = (l, x.inside); edge = inr x.edge }))

pub first_exit : (gs : List Course) → AllBegin gs → AllEnd gs ⊎ Exit gs
first_exit [] h = inl tt
first_exit (g ∷ gs) h = step g gs h.0 h.1 (first_exit gs h.1)
