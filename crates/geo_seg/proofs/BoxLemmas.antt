-- What lies in a box, and that points of boxes which are d apart are not nearer than d.
use Rattle.std.proofs.Common.{◌≡◌, ℤ, pos, negsuc, ◌+ℤ◌, ◌-ℤ◌, ◌*ℤ◌, ◌≤ℤ◌, ◌<ℤ◌, [], ◌∷◌, inl, inr, arith}
use Rattle.std.proofs.lemmas.Int.{ints}
use Rattle.int_algebra.proofs.Ring.{var, num, ◌⊕◌, ◌⊖◌, ◌⊗◌, sq, fact, ring, ring_by}
use Rattle.int_algebra.proofs.Order.{product-nonneg, square-nonneg, sum-nonneg, lt-le, le_by, le_gap, scale_le, unscale_le, not_lt}
use Rattle.geo_seg.specs.declared.points.Point.{Point}
use Rattle.geo_seg.specs.declared.points.Seg.{Seg}
use Rattle.geo_seg.specs.declared.boxes.Bounds.{Bounds}
use Rattle.geo_seg.specs.Points.{RationalPoint, IsAt, IsOn, rational_point_of}
use Rattle.geo_seg.specs.Nearer.{square, squared_gap, squared_limit, IsNearer, AreApart, AreWithin}
use Rattle.geo_seg.specs.Boxes.{IsInBox, IsLeastBox, AreClear}
use Rattle.geo_seg.specs.PolygonCorners.{IsHeld}
use Rattle.geo_seg.proofs.Distances.{apart_not_within}

-- a rational point of a segment lies in each range that its ends lie in
below_at : (m i w x a b hi : ℤ) → pos 0 ≤ℤ i → i ≤ℤ m → pos 0 <ℤ m → pos 0 <ℤ w → m *ℤ x ≡ w *ℤ ((m -ℤ i) *ℤ a +ℤ i *ℤ b) → a ≤ℤ hi → b ≤ℤ hi → x ≤ℤ (w *ℤ hi)
below_at m i w x a b hi h0 h1 hm hw e ha hb =
    let M = var 0 in let I = var 1 in let W = var 2 in let X = var 3 in let A = var 4 in let B = var 5 in let H = var 6 in
    let t = (m -ℤ i) *ℤ (hi -ℤ a) +ℤ i *ℤ (hi -ℤ b) in
    unscale_le m x (w *ℤ hi) hm
    (le_by (m *ℤ x) (m *ℤ (w *ℤ hi)) (w *ℤ t)
    (ring_by (m ∷ i ∷ w ∷ x ∷ a ∷ b ∷ hi ∷ []) (fact (num (negsuc 0)) (M ⊗ X) (W ⊗ ((M ⊖ I) ⊗ A ⊕ I ⊗ B)) ∷ []) (e, tt) (M ⊗ (W ⊗ H) ⊖ M ⊗ X) (W ⊗ ((M ⊖ I) ⊗ (H ⊖ A) ⊕ I ⊗ (H ⊖ B))) tt)
    (product-nonneg w t (lt-le (pos 0) w hw) (sum-nonneg ((m -ℤ i) *ℤ (hi -ℤ a)) (i *ℤ (hi -ℤ b)) (product-nonneg (m -ℤ i) (hi -ℤ a) (le_gap i m h1) (le_gap a hi ha)) (product-nonneg i (hi -ℤ b) h0 (le_gap b hi hb)))))

above_at : (m i w x a b lo : ℤ) → pos 0 ≤ℤ i → i ≤ℤ m → pos 0 <ℤ m → pos 0 <ℤ w → m *ℤ x ≡ w *ℤ ((m -ℤ i) *ℤ a +ℤ i *ℤ b) → lo ≤ℤ a → lo ≤ℤ b → (w *ℤ lo) ≤ℤ x
above_at m i w x a b lo h0 h1 hm hw e ha hb =
    let M = var 0 in let I = var 1 in let W = var 2 in let X = var 3 in let A = var 4 in let B = var 5 in let L = var 6 in
    let t = (m -ℤ i) *ℤ (a -ℤ lo) +ℤ i *ℤ (b -ℤ lo) in
    unscale_le m (w *ℤ lo) x hm
    (le_by (m *ℤ (w *ℤ lo)) (m *ℤ x) (w *ℤ t)
    (ring_by (m ∷ i ∷ w ∷ x ∷ a ∷ b ∷ lo ∷ []) (fact (num (pos 1)) (M ⊗ X) (W ⊗ ((M ⊖ I) ⊗ A ⊕ I ⊗ B)) ∷ []) (e, tt) (M ⊗ X ⊖ M ⊗ (W ⊗ L)) (W ⊗ ((M ⊖ I) ⊗ (A ⊖ L) ⊕ I ⊗ (B ⊖ L))) tt)
    (product-nonneg w t (lt-le (pos 0) w hw) (sum-nonneg ((m -ℤ i) *ℤ (a -ℤ lo)) (i *ℤ (b -ℤ lo)) (product-nonneg (m -ℤ i) (a -ℤ lo) (le_gap i m h1) (le_gap lo a ha)) (product-nonneg i (b -ℤ lo) h0 (le_gap lo b hb)))))

-- x / v at most hi and x' / w at least lo, where lo is d past hi
wide_gap : (x v x' w hi lo d other : ℤ) → pos 0 <ℤ v → pos 0 <ℤ w → pos 0 ≤ℤ d → x ≤ℤ (v *ℤ hi) → (w *ℤ lo) ≤ℤ x' → (hi +ℤ d) ≤ℤ lo → square (d *ℤ v *ℤ w) ≤ℤ (square (x *ℤ w -ℤ x' *ℤ v) +ℤ square other)
wide_gap x v x' w hi lo d other hv hw hd hx hx' h =
    let X = var 0 in let V = var 1 in let X' = var 2 in let W = var 3 in let H = var 4 in let L = var 5 in let D = var 6 in let O = var 7 in
    let v0 = lt-le (pos 0) v hv in let w0 = lt-le (pos 0) w hw in
    let vw = product-nonneg v w v0 w0 in
    let far = (v *ℤ hi -ℤ x) *ℤ w +ℤ (x' -ℤ w *ℤ lo) *ℤ v +ℤ (lo -ℤ (hi +ℤ d)) *ℤ (v *ℤ w) in
    let far0 = sum-nonneg ((v *ℤ hi -ℤ x) *ℤ w +ℤ (x' -ℤ w *ℤ lo) *ℤ v) ((lo -ℤ (hi +ℤ d)) *ℤ (v *ℤ w))
    (sum-nonneg ((v *ℤ hi -ℤ x) *ℤ w) ((x' -ℤ w *ℤ lo) *ℤ v) (product-nonneg (v *ℤ hi -ℤ x) w (le_gap x (v *ℤ hi) hx) w0) (product-nonneg (x' -ℤ w *ℤ lo) v (le_gap (w *ℤ lo) x' hx') v0))
    (product-nonneg (lo -ℤ (hi +ℤ d)) (v *ℤ w) (le_gap (hi +ℤ d) lo h) vw) in
    let dvw = product-nonneg d (v *ℤ w) hd vw in
    le_by (square (d *ℤ v *ℤ w)) (square (x *ℤ w -ℤ x' *ℤ v) +ℤ square other) (far *ℤ (far +ℤ (d *ℤ (v *ℤ w) +ℤ d *ℤ (v *ℤ w))) +ℤ square other)
    (ring (x ∷ v ∷ x' ∷ w ∷ hi ∷ lo ∷ d ∷ other ∷ []) (sq (X ⊗ W ⊖ X' ⊗ V) ⊕ sq O ⊖ sq (D ⊗ V ⊗ W))
    (((V ⊗ H ⊖ X) ⊗ W ⊕ (X' ⊖ W ⊗ L) ⊗ V ⊕ (L ⊖ (H ⊕ D)) ⊗ (V ⊗ W)) ⊗ ((V ⊗ H ⊖ X) ⊗ W ⊕ (X' ⊖ W ⊗ L) ⊗ V ⊕ (L ⊖ (H ⊕ D)) ⊗ (V ⊗ W) ⊕ (D ⊗ (V ⊗ W) ⊕ D ⊗ (V ⊗ W))) ⊕ sq O) tt)
    (sum-nonneg (far *ℤ (far +ℤ (d *ℤ (v *ℤ w) +ℤ d *ℤ (v *ℤ w)))) (square other) (product-nonneg far (far +ℤ (d *ℤ (v *ℤ w) +ℤ d *ℤ (v *ℤ w))) far0 (sum-nonneg far (d *ℤ (v *ℤ w) +ℤ d *ℤ (v *ℤ w)) far0 (sum-nonneg (d *ℤ (v *ℤ w)) (d *ℤ (v *ℤ w)) dvw dvw))) (square-nonneg other))

flip_sum : (a b c : ℤ) → c ≤ℤ (a +ℤ b) → c ≤ℤ (b +ℤ a)
flip_sum a b c h = omega (arith, ints)

-- ---- points and segments in a box
pub at_in_box : (b : Bounds) (p : Point) (q : RationalPoint) → IsHeld b p → IsAt p q → IsInBox b q
at_in_box b p q h e =
    let w0 = lt-le (pos 0) q.w q.positive in
    record {
      left = to_right (q.w *ℤ b.left) (q.w *ℤ p.x) q.x e.at_x (scale_le q.w b.left p.x w0 h.left);
      top = to_right (q.w *ℤ b.top) (q.w *ℤ p.y) q.y e.at_y (scale_le q.w b.top p.y w0 h.top);
      right = to_left (q.w *ℤ b.right) (q.w *ℤ p.x) q.x e.at_x (scale_le q.w p.x b.right w0 h.right);
      bottom = to_left (q.w *ℤ b.bottom) (q.w *ℤ p.y) q.y e.at_y (scale_le q.w p.y b.bottom w0 h.bottom);
    }
  where
    to_right : (u v x : ℤ) → x ≡ v → u ≤ℤ v → u ≤ℤ x
    to_right u v x e h = omega (arith, ints)

    to_left : (u v x : ℤ) → x ≡ v → v ≤ℤ u → x ≤ℤ u
    to_left u v x e h = omega (arith, ints)

pub on_in_box : (b : Bounds) (s : Seg) (p : RationalPoint) → IsHeld b s.a → IsHeld b s.b → IsOn s p → IsInBox b p
on_in_box b s p h k o = record {
  left = above_at o.whole o.part p.w p.x s.a.x s.b.x b.left o.starts o.ends o.positive p.positive o.along_x h.left k.left;
  top = above_at o.whole o.part p.w p.y s.a.y s.b.y b.top o.starts o.ends o.positive p.positive o.along_y h.top k.top;
  right = below_at o.whole o.part p.w p.x s.a.x s.b.x b.right o.starts o.ends o.positive p.positive o.along_x h.right k.right;
  bottom = below_at o.whole o.part p.w p.y s.a.y s.b.y b.bottom o.starts o.ends o.positive p.positive o.along_y h.bottom k.bottom;
}

pub held_of_in_box : (b : Bounds) (p : Point) → IsInBox b (rational_point_of p) → IsHeld b p
unfolding rational_point_of
held_of_in_box b p h = record { left = up b.left p.x h.left; top = up b.top p.y h.top; right = down b.right p.x h.right; bottom = down b.bottom p.y h.bottom }
  where
    up : (u x : ℤ) → (pos 1 *ℤ u) ≤ℤ x → u ≤ℤ x
    up u x h = omega (arith, ints)

    down : (u x : ℤ) → x ≤ℤ (pos 1 *ℤ u) → x ≤ℤ u
    down u x h = omega (arith, ints)

pub start_on : (s : Seg) → IsOn s (rational_point_of s.a)
unfolding rational_point_of
start_on s = record {
  part = pos 0;
  whole = pos 1;
  starts = record { le = tt };
  ends = record { le = tt };
  positive = record { lt = tt };
  along_x = at_part s.a.x s.b.x;
  along_y = at_part s.a.y s.b.y;
}
  where
    at_part : (u v : ℤ) → pos 1 *ℤ u ≡ pos 1 *ℤ ((pos 1 -ℤ pos 0) *ℤ u +ℤ pos 0 *ℤ v)
    at_part u v = omega (arith, ints)

pub end_on : (s : Seg) → IsOn s (rational_point_of s.b)
unfolding rational_point_of
end_on s = record {
  part = pos 1;
  whole = pos 1;
  starts = record { le = tt };
  ends = record { le = tt };
  positive = record { lt = tt };
  along_x = at_part s.a.x s.b.x;
  along_y = at_part s.a.y s.b.y;
}
  where
    at_part : (u v : ℤ) → pos 1 *ℤ v ≡ pos 1 *ℤ ((pos 1 -ℤ pos 1) *ℤ u +ℤ pos 1 *ℤ v)
    at_part u v = omega (arith, ints)

-- ---- boxes that are clear of each other
clear_x : (b c : Bounds) (p q : RationalPoint) (d : ℤ) → pos 0 ≤ℤ d → IsInBox b p → IsInBox c q → (b.right +ℤ d) ≤ℤ c.left → ¬ (IsNearer d p q)
clear_x b c p q d hd hp hq h n = not_lt (squared_limit d p q) (squared_gap p q) (wide_gap p.x p.w q.x q.w b.right c.left d (p.y *ℤ q.w -ℤ q.y *ℤ p.w) p.positive q.positive hd hp.right hq.left h) n

clear_y : (b c : Bounds) (p q : RationalPoint) (d : ℤ) → pos 0 ≤ℤ d → IsInBox b p → IsInBox c q → (b.bottom +ℤ d) ≤ℤ c.top → ¬ (IsNearer d p q)
clear_y b c p q d hd hp hq h n = not_lt (squared_limit d p q) (squared_gap p q) (flip_sum (square (p.y *ℤ q.w -ℤ q.y *ℤ p.w)) (square (p.x *ℤ q.w -ℤ q.x *ℤ p.w)) (squared_limit d p q) (wide_gap p.y p.w q.y q.w b.bottom c.top d (p.x *ℤ q.w -ℤ q.x *ℤ p.w) p.positive q.positive hd hp.bottom hq.top h)) n

gap_sym : (p q : RationalPoint) → squared_gap p q ≡ squared_gap q p
gap_sym p q =
    let Px = var 0 in let Py = var 1 in let Pw = var 2 in let Qx = var 3 in let Qy = var 4 in let Qw = var 5 in
    ring (p.x ∷ p.y ∷ p.w ∷ q.x ∷ q.y ∷ q.w ∷ []) (sq (Px ⊗ Qw ⊖ Qx ⊗ Pw) ⊕ sq (Py ⊗ Qw ⊖ Qy ⊗ Pw)) (sq (Qx ⊗ Pw ⊖ Px ⊗ Qw) ⊕ sq (Qy ⊗ Pw ⊖ Py ⊗ Qw)) tt

limit_sym : (d : ℤ) (p q : RationalPoint) → squared_limit d p q ≡ squared_limit d q p
limit_sym d p q = ring (d ∷ p.w ∷ q.w ∷ []) (sq (var 0 ⊗ var 1 ⊗ var 2)) (sq (var 0 ⊗ var 2 ⊗ var 1)) tt

pub nearer_sym : (d : ℤ) (p q : RationalPoint) → IsNearer d p q → IsNearer d q p
nearer_sym d p q n = along (squared_gap p q) (squared_gap q p) (squared_limit d p q) (squared_limit d q p) (gap_sym p q) (limit_sym d p q) n
  where
    along : (a a' b b' : ℤ) → a ≡ a' → b ≡ b' → a <ℤ b → a' <ℤ b'
    along a a' b b' e f h = omega (arith, ints)

pub clear_not_nearer : (b c : Bounds) (p q : RationalPoint) (d : ℤ) → pos 0 ≤ℤ d → IsInBox b p → IsInBox c q → AreClear b c d → ¬ (IsNearer d p q)
clear_not_nearer b c p q d hd hp hq (inl (inl h)) n = clear_x b c p q d hd hp hq h n
clear_not_nearer b c p q d hd hp hq (inl (inr h)) n = clear_x c b q p d hd hq hp h (nearer_sym d p q n)
clear_not_nearer b c p q d hd hp hq (inr (inl h)) n = clear_y b c p q d hd hp hq h n
clear_not_nearer b c p q d hd hp hq (inr (inr h)) n = clear_y c b q p d hd hq hp h (nearer_sym d p q n)

-- sets of points whose boxes are clear at d are apart at d
pub clear_apart : (P Q : RationalPoint → Type 0) (b c : Bounds) (d : ℤ) → pos 0 ≤ℤ d → IsLeastBox P b → IsLeastBox Q c → AreClear b c d → AreApart P Q d
clear_apart P Q b c d hd hb hc h = record { apart = λ p q o u n. clear_not_nearer b c p q d hd (hb.holds p o) (hc.holds q u) h n }

pub clear_not_within : (P Q : RationalPoint → Type 0) (b c : Bounds) (d : ℤ) → pos 0 ≤ℤ d → IsLeastBox P b → IsLeastBox Q c → AreClear b c (d +ℤ pos 1) → ¬ (AreWithin P Q d)
clear_not_within P Q b c d hd hb hc h = apart_not_within P Q d (d +ℤ pos 1) hd (past d) (clear_apart P Q b c (d +ℤ pos 1) (more d hd) hb hc h)
  where
    more : (d : ℤ) → pos 0 ≤ℤ d → pos 0 ≤ℤ (d +ℤ pos 1)
    more d h = omega (arith, ints)

    past : (d : ℤ) → d <ℤ (d +ℤ pos 1)
    past d = omega (arith, ints)
