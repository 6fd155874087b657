use Rattle.std.proofs.Common.{ℤ, pos, ◌+ℤ◌, ◌-ℤ◌, ◌*ℤ◌, neg_ℤ, ◌≤ℤ◌, ◌<ℤ◌, List, [], ◌∷◌, arith}
use Rattle.std.proofs.lemmas.Int.{ints}
use Rattle.int_algebra.proofs.Ring.{Expr, var, num, ◌⊕◌, ◌⊖◌, ◌⊗◌, minus, sq, ring}
use Rattle.int_algebra.proofs.Order.{product-nonneg, square-nonneg, sum-nonneg, lt-le, le_by, le_gap, le_trans}
use Rattle.geo_seg.specs.declared.points.Point.{Point}
use Rattle.geo_seg.specs.declared.points.Seg.{Seg}
use Rattle.geo_seg.specs.Nearer.{square}
use Rattle.geo_seg.specs.Gap.{IsLeastGap, squared_offset, dot_of, cross_of, squared_length}

squared_length-nonneg : (a b : Point) → pos 0 ≤ℤ squared_length a b
squared_length-nonneg a b = sum-nonneg (square (b.x -ℤ a.x)) (square (b.y -ℤ a.y)) (square-nonneg (b.x -ℤ a.x)) (square-nonneg (b.y -ℤ a.y))

-- the identities' variables, and the specs' words for them
abbrev numbers : Point → Seg → ℤ → ℤ → List ℤ
numbers p s t i = t ∷ i ∷ p.x ∷ p.y ∷ s.a.x ∷ s.a.y ∷ s.b.x ∷ s.b.y ∷ []

abbrev T' : Expr
T' = var 0

abbrev I' : Expr
I' = var 1

abbrev Px : Expr
Px = var 2

abbrev Py : Expr
Py = var 3

abbrev Ax : Expr
Ax = var 4

abbrev Ay : Expr
Ay = var 5

abbrev Bx : Expr
Bx = var 6

abbrev By : Expr
By = var 7

abbrev offset_at : Expr → Expr → Expr
offset_at t i = sq (t ⊗ Px ⊖ ((t ⊖ i) ⊗ Ax ⊕ i ⊗ Bx)) ⊕ sq (t ⊗ Py ⊖ ((t ⊖ i) ⊗ Ay ⊕ i ⊗ By))

abbrev dot' : Expr
dot' = (Bx ⊖ Ax) ⊗ (Px ⊖ Ax) ⊕ (By ⊖ Ay) ⊗ (Py ⊖ Ay)

abbrev cross' : Expr
cross' = (Bx ⊖ Ax) ⊗ (Py ⊖ Ay) ⊖ (By ⊖ Ay) ⊗ (Px ⊖ Ax)

abbrev ab' : Expr
ab' = sq (Bx ⊖ Ax) ⊕ sq (By ⊖ Ay)

abbrev ap' : Expr
ap' = sq (Px ⊖ Ax) ⊕ sq (Py ⊖ Ay)

abbrev bp' : Expr
bp' = sq (Px ⊖ Bx) ⊕ sq (Py ⊖ By)

abbrev one' : Expr
one' = num (pos 1)

abbrev zero' : Expr
zero' = num (pos 0)

not-positive : (z : ℤ) → z ≤ℤ pos 0 → pos 0 ≤ℤ neg_ℤ z
not-positive z h = omega (arith, ints)

positive_above : (z y : ℤ) → pos 0 <ℤ z → z <ℤ y → pos 0 <ℤ y
positive_above z y h k = omega (arith, ints)

-- the foot of the perpendicular is not past s.a: s.a is nearest
pub gap_at_start : (p : Point) (s : Seg) → dot_of p s ≤ℤ pos 0 → IsLeastGap p s (squared_length s.a p) (pos 1)
gap_at_start p s h = record {
  positive = record { lt = tt };
  least = λ t i hi ht.
      let hn = not-positive (dot_of p s) h in
      let ht0 = le_trans (pos 0) i t hi ht in
      le_by (squared_length s.a p *ℤ square t) (pos 1 *ℤ squared_offset p s t i) (pos 2 *ℤ (t *ℤ i) *ℤ neg_ℤ (dot_of p s) +ℤ i *ℤ i *ℤ squared_length s.a s.b)
      (ring (numbers p s t i) (one' ⊗ offset_at T' I' ⊖ ap' ⊗ sq T') (num (pos 2) ⊗ (T' ⊗ I') ⊗ minus dot' ⊕ I' ⊗ I' ⊗ ab') tt)
      (sum-nonneg (pos 2 *ℤ (t *ℤ i) *ℤ neg_ℤ (dot_of p s)) (i *ℤ i *ℤ squared_length s.a s.b)
      (product-nonneg (pos 2 *ℤ (t *ℤ i)) (neg_ℤ (dot_of p s)) (product-nonneg (pos 2) (t *ℤ i) (record { le = tt }) (product-nonneg t i ht0 hi)) hn)
      (product-nonneg (i *ℤ i) (squared_length s.a s.b) (square-nonneg i) (squared_length-nonneg s.a s.b)));
  part = pos 0;
  whole = pos 1;
  starts = record { le = tt };
  ends = record { le = tt };
  whole_positive = record { lt = tt };
  reached = ring (numbers p s (pos 1) (pos 0)) (ap' ⊗ sq one') (one' ⊗ offset_at one' zero') tt;
}

pub gap_at_end : (p : Point) (s : Seg) → squared_length s.a s.b ≤ℤ dot_of p s → IsLeastGap p s (squared_length s.b p) (pos 1)
gap_at_end p s h = record {
  positive = record { lt = tt };
  least = λ t i hi ht.
      let hn = le_gap (squared_length s.a s.b) (dot_of p s) h in
      let hk = le_gap i t ht in
      let ht0 = le_trans (pos 0) i t hi ht in
      le_by (squared_length s.b p *ℤ square t) (pos 1 *ℤ squared_offset p s t i) (pos 2 *ℤ (t *ℤ (t -ℤ i)) *ℤ (dot_of p s -ℤ squared_length s.a s.b) +ℤ (t -ℤ i) *ℤ (t -ℤ i) *ℤ squared_length s.a s.b)
      (ring (numbers p s t i) (one' ⊗ offset_at T' I' ⊖ bp' ⊗ sq T') (num (pos 2) ⊗ (T' ⊗ (T' ⊖ I')) ⊗ (dot' ⊖ ab') ⊕ (T' ⊖ I') ⊗ (T' ⊖ I') ⊗ ab') tt)
      (sum-nonneg (pos 2 *ℤ (t *ℤ (t -ℤ i)) *ℤ (dot_of p s -ℤ squared_length s.a s.b)) ((t -ℤ i) *ℤ (t -ℤ i) *ℤ squared_length s.a s.b)
      (product-nonneg (pos 2 *ℤ (t *ℤ (t -ℤ i))) (dot_of p s -ℤ squared_length s.a s.b) (product-nonneg (pos 2) (t *ℤ (t -ℤ i)) (record { le = tt }) (product-nonneg t (t -ℤ i) ht0 hk)) hn)
      (product-nonneg ((t -ℤ i) *ℤ (t -ℤ i)) (squared_length s.a s.b) (square-nonneg (t -ℤ i)) (squared_length-nonneg s.a s.b)));
  part = pos 1;
  whole = pos 1;
  starts = record { le = tt };
  ends = record { le = tt };
  whole_positive = record { lt = tt };
  reached = ring (numbers p s (pos 1) (pos 1)) (bp' ⊗ sq one') (one' ⊗ offset_at one' one') tt;
}

pub gap_between : (p : Point) (s : Seg) → pos 0 <ℤ dot_of p s → dot_of p s <ℤ squared_length s.a s.b → IsLeastGap p s (square (cross_of p s)) (squared_length s.a s.b)
gap_between p s h k = record {
  positive = positive_above (dot_of p s) (squared_length s.a s.b) h k;
  least = λ t i hi ht.
      le_by (square (cross_of p s) *ℤ square t) (squared_length s.a s.b *ℤ squared_offset p s t i) (square (t *ℤ dot_of p s -ℤ i *ℤ squared_length s.a s.b))
      (ring (numbers p s t i) (ab' ⊗ offset_at T' I' ⊖ sq cross' ⊗ sq T') (sq (T' ⊗ dot' ⊖ I' ⊗ ab')) tt)
      (square-nonneg (t *ℤ dot_of p s -ℤ i *ℤ squared_length s.a s.b));
  part = dot_of p s;
  whole = squared_length s.a s.b;
  starts = lt-le (pos 0) (dot_of p s) h;
  ends = lt-le (dot_of p s) (squared_length s.a s.b) k;
  whole_positive = positive_above (dot_of p s) (squared_length s.a s.b) h k;
  reached = ring (numbers p s (pos 1) (pos 1)) (sq cross' ⊗ sq ab') (ab' ⊗ offset_at ab' dot') tt;
}
