-- What is apart at a distance is apart at a lesser one, and what is within a distance is nearer than a greater one.
use Rattle.std.proofs.Common.{ℤ, pos, ◌+ℤ◌, ◌-ℤ◌, ◌*ℤ◌, ◌≤ℤ◌, ◌<ℤ◌, [], ◌∷◌, arith}
use Rattle.std.proofs.lemmas.Int.{ints}
use Rattle.int_algebra.proofs.Ring.{ring, var, sq, ◌⊕◌, ◌⊖◌, ◌⊗◌}
use Rattle.int_algebra.proofs.Order.{le_by, lt_by, le_gap, lt_gap, lt_le_trans, le_lt_trans, product-nonneg, product-pos, sum-nonneg, square-nonneg}
use Rattle.geo_seg.specs.Points.{RationalPoint}
use Rattle.geo_seg.specs.Nearer.{square, squared_gap, squared_limit, IsNearer, IsAtMost, AreApart, AreWithin}

limit_le : (d e v w : ℤ) → pos 0 ≤ℤ d → d ≤ℤ e → square (d *ℤ v *ℤ w) ≤ℤ square (e *ℤ v *ℤ w)
limit_le d e v w hd h =
    let D = var 0 in let E = var 1 in let V = var 2 in let W = var 3 in
    let he : pos 0 ≤ℤ e = omega (arith, ints) in
    le_by (square (d *ℤ v *ℤ w)) (square (e *ℤ v *ℤ w)) ((e -ℤ d) *ℤ ((e +ℤ d) *ℤ square (v *ℤ w)))
    (ring (d ∷ e ∷ v ∷ w ∷ []) (sq (E ⊗ V ⊗ W) ⊖ sq (D ⊗ V ⊗ W)) ((E ⊖ D) ⊗ ((E ⊕ D) ⊗ sq (V ⊗ W))) tt)
    (product-nonneg (e -ℤ d) ((e +ℤ d) *ℤ square (v *ℤ w)) (le_gap d e h) (product-nonneg (e +ℤ d) (square (v *ℤ w)) (sum-nonneg e d he hd) (square-nonneg (v *ℤ w))))

limit_lt : (d e v w : ℤ) → pos 0 ≤ℤ d → d <ℤ e → pos 0 <ℤ v → pos 0 <ℤ w → square (d *ℤ v *ℤ w) <ℤ square (e *ℤ v *ℤ w)
limit_lt d e v w hd h hv hw =
    let D = var 0 in let E = var 1 in let V = var 2 in let W = var 3 in
    let more : pos 0 <ℤ (e +ℤ d) = omega (arith, ints) in
    let vw = product-pos v w hv hw in
    lt_by (square (d *ℤ v *ℤ w)) (square (e *ℤ v *ℤ w)) ((e -ℤ d) *ℤ ((e +ℤ d) *ℤ square (v *ℤ w)))
    (ring (d ∷ e ∷ v ∷ w ∷ []) (sq (E ⊗ V ⊗ W) ⊖ sq (D ⊗ V ⊗ W)) ((E ⊖ D) ⊗ ((E ⊕ D) ⊗ sq (V ⊗ W))) tt)
    (product-pos (e -ℤ d) ((e +ℤ d) *ℤ square (v *ℤ w)) (lt_gap d e h) (product-pos (e +ℤ d) (square (v *ℤ w)) more (product-pos (v *ℤ w) (v *ℤ w) vw vw)))

pub nearer_more : (d e : ℤ) (p q : RationalPoint) → pos 0 ≤ℤ d → d ≤ℤ e → IsNearer d p q → IsNearer e p q
nearer_more d e p q hd h n = lt_le_trans (squared_gap p q) (squared_limit d p q) (squared_limit e p q) n (limit_le d e p.w q.w hd h)

pub within_nearer : (d e : ℤ) (p q : RationalPoint) → pos 0 ≤ℤ d → d <ℤ e → IsAtMost d p q → IsNearer e p q
within_nearer d e p q hd h n = le_lt_trans (squared_gap p q) (squared_limit d p q) (squared_limit e p q) n (limit_lt d e p.w q.w hd h p.positive q.positive)

pub apart_less : (P Q : RationalPoint → Type 0) (d e : ℤ) → pos 0 ≤ℤ d → d ≤ℤ e → AreApart P Q e → AreApart P Q d
apart_less P Q d e hd h far = record { apart = λ p q hp hq n. far.apart p q hp hq (nearer_more d e p q hd h n) }

pub apart_not_within : (P Q : RationalPoint → Type 0) (d e : ℤ) → pos 0 ≤ℤ d → d <ℤ e → AreApart P Q e → AreWithin P Q d → ⊥
apart_not_within P Q d e hd h far near = far.apart near.from near.to near.of_first near.of_second (within_nearer d e near.from near.to hd h near.within)
