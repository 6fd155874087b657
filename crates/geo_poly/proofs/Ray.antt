-- The ray from a rational point to the right: of the edges that pass to the right of the rational point, there is a first that the ray
-- meets.
use Rattle.std.proofs.Common.{◌≡◌, ℤ, pos, ◌+ℤ◌, ◌-ℤ◌, ◌*ℤ◌, neg_ℤ, ◌≤ℤ◌, ◌<ℤ◌, ◌⊎◌, Bool, true, false, List, [], ◌∷◌, refl, sym, ap, ◌∙◌, subst, inl, inr, arith}
use Rattle.std.proofs.lemmas.Int.{ints, by_lt_z}
use Rattle.std.specs.Int.Signed.{lt_z}
use Rattle.int_algebra.proofs.Ring.{var, num, ◌⊕◌, ◌⊖◌, ◌⊗◌, minus, fact, ring, ring_by}
use Rattle.int_algebra.proofs.Order.{product-nonneg, lt-le, Below, scale_Below, unscale_Below, Below-le, le-Below, unscale_le, same_by_scale}
use Rattle.geo_seg.specs.declared.points.Point.{Point}
use Rattle.geo_seg.specs.declared.points.Seg.{Seg}
use Rattle.geo_seg.specs.Points.{RationalPoint, IsOn}
use Rattle.geo_seg.proofs.PointReach.{rational_point_at, rational_point_at_IsOn}
use Rattle.geo_seg.specs.Inside.{SomeEdge, EachEdge, is_low, side, passing, passes}
use Rattle.geo_seg.proofs.Parity.{differ, is_odd}
use Rattle.geo_poly.proofs.Sides.{ReadsLe, ReadsLt, reads_le, reads_lt, on_left}
use Rattle.geo_poly.proofs.Ways.{ReadsLe_scaled, both_steps}

-- r is as high as q, and not to the left of it
pub record IsRight (q r : RationalPoint) : Type 0 where
  pub level : r.y *ℤ q.w ≡ q.y *ℤ r.w
  pub right : (q.x *ℤ r.w) ≤ℤ (r.x *ℤ q.w)

-- ---- rational points of one height read alike
same_le : (b c : Bool) (x y : ℤ) → ReadsLe b x y → ReadsLe c x y → b ≡ c
same_le true true x y h k = refl
same_le false false x y h k = refl
same_le true false x y h k = absurd (clash x y h k)
  where
    clash : (x y : ℤ) → x ≤ℤ y → y <ℤ x → ⊥
    clash x y h k = omega (arith, ints)
same_le false true x y h k = absurd (clash x y k h)
  where
    clash : (x y : ℤ) → x ≤ℤ y → y <ℤ x → ⊥
    clash x y h k = omega (arith, ints)

mul3 : (a b c : ℤ) → a *ℤ (b *ℤ c) ≡ b *ℤ (a *ℤ c)
mul3 a b c = ring (a ∷ b ∷ c ∷ []) (var 0 ⊗ (var 1 ⊗ var 2)) (var 1 ⊗ (var 0 ⊗ var 2)) tt

swap_mul : (a b : ℤ) → a *ℤ b ≡ b *ℤ a
swap_mul a b = ring (a ∷ b ∷ []) (var 0 ⊗ var 1) (var 1 ⊗ var 0) tt

same_low : (q r : RationalPoint) (c : Point) → r.y *ℤ q.w ≡ q.y *ℤ r.w → is_low q c ≡ is_low r c
same_low q r c h =
    same_le (is_low q c) (is_low r c) (q.w *ℤ (r.w *ℤ c.y)) (r.y *ℤ q.w)
    (ReadsLe_scaled (is_low q c) r.w (q.w *ℤ c.y) q.y (q.w *ℤ (r.w *ℤ c.y)) (r.y *ℤ q.w) (lt-le (pos 0) r.w r.positive) r.positive (mul3 r.w q.w c.y) (swap_mul r.w q.y ∙ sym h) (reads_le (q.w *ℤ c.y) q.y))
    (ReadsLe_scaled (is_low r c) q.w (r.w *ℤ c.y) r.y (q.w *ℤ (r.w *ℤ c.y)) (r.y *ℤ q.w) (lt-le (pos 0) q.w q.positive) q.positive refl (swap_mul q.w r.y) (reads_le (r.w *ℤ c.y) r.y))

-- ---- an edge passes strictly to the right (`true`), or may meet the rational point (`false`)
abbrev pub PassBy : Bool → Bool → Bool → ℤ → Type 0
PassBy t true true u = ⊥
PassBy t true false u = Below t (pos 0) u
PassBy t false true u = Below t u (pos 0)
PassBy t false false u = ⊥

abbrev pub Passes : Bool → RationalPoint → Seg → Type 0
Passes t p e = PassBy t (is_low p e.a) (is_low p e.b) (side e p)

test_reads : (b : Bool) (x y : ℤ) → ReadsLt b x y → b ≡ true → x <ℤ y
test_reads true x y h e = h
test_reads false x y h e = absurd (no e)
  where
    no : false ≡ true → ⊥
    no e = cc

reads_test : (b : Bool) (x y : ℤ) → ReadsLt b x y → x <ℤ y → b ≡ true
reads_test true x y h l = refl
reads_test false x y h l = absurd (clash x y h l)
  where
    clash : (x y : ℤ) → y ≤ℤ x → x <ℤ y → ⊥
    clash x y h k = omega (arith, ints)

pub pass_of : (la lb : Bool) (u : ℤ) → passing la lb u ≡ true → PassBy true la lb u
pass_of true true u e = let h : ⊥ = cc in h
pass_of true false u e = test_reads (lt_z (pos 0) u) (pos 0) u (reads_lt (pos 0) u) e
pass_of false true u e = test_reads (lt_z u (pos 0)) u (pos 0) (reads_lt u (pos 0)) e
pass_of false false u e = let h : ⊥ = cc in h

pub of_pass : (la lb : Bool) (u : ℤ) → PassBy true la lb u → passing la lb u ≡ true
of_pass true true u h = absurd h
of_pass true false u h = reads_test (lt_z (pos 0) u) (pos 0) u (reads_lt (pos 0) u) h
of_pass false true u h = reads_test (lt_z u (pos 0)) u (pos 0) (reads_lt u (pos 0)) h
of_pass false false u h = absurd h

pass_weaker : (la lb : Bool) (u : ℤ) → PassBy true la lb u → PassBy false la lb u
pass_weaker true true u h = h
pass_weaker true false u h = lt-le (pos 0) u h
pass_weaker false true u h = lt-le u (pos 0) h
pass_weaker false false u h = h

-- ---- more edges pass to the right of a rational point farther left
side_gap : (qx qy qw rx ry rw ax ay bx by : ℤ) → ry *ℤ qw ≡ qy *ℤ rw → rw *ℤ ((bx -ℤ ax) *ℤ (qy -ℤ qw *ℤ ay) -ℤ (by -ℤ ay) *ℤ (qx -ℤ qw *ℤ ax)) -ℤ qw *ℤ ((bx -ℤ ax) *ℤ (ry -ℤ rw *ℤ ay) -ℤ (by -ℤ ay) *ℤ (rx -ℤ rw *ℤ ax)) ≡ (by -ℤ ay) *ℤ (rx *ℤ qw -ℤ qx *ℤ rw)
side_gap qx qy qw rx ry rw ax ay bx by h =
    let Qx = var 0 in let Qy = var 1 in let Qw = var 2 in let Rx = var 3 in let Ry = var 4 in let Rw = var 5 in
    let Ax = var 6 in let Ay = var 7 in let Bx = var 8 in let By = var 9 in
    ring_by (qx ∷ qy ∷ qw ∷ rx ∷ ry ∷ rw ∷ ax ∷ ay ∷ bx ∷ by ∷ []) (fact (Ax ⊖ Bx) (Ry ⊗ Qw) (Qy ⊗ Rw) ∷ []) (h, tt)
    (Rw ⊗ ((Bx ⊖ Ax) ⊗ (Qy ⊖ Qw ⊗ Ay) ⊖ (By ⊖ Ay) ⊗ (Qx ⊖ Qw ⊗ Ax)) ⊖ Qw ⊗ ((Bx ⊖ Ax) ⊗ (Ry ⊖ Rw ⊗ Ay) ⊖ (By ⊖ Ay) ⊗ (Rx ⊖ Rw ⊗ Ax)))
    ((By ⊖ Ay) ⊗ (Rx ⊗ Qw ⊖ Qx ⊗ Rw)) tt

mul_zero : (c : ℤ) → c *ℤ pos 0 ≡ pos 0
mul_zero c = omega (arith, ints)

-- w a ≤ y < w b
below_of : (w a b y : ℤ) → pos 0 <ℤ w → (w *ℤ a) ≤ℤ y → y <ℤ (w *ℤ b) → pos 0 ≤ℤ (b -ℤ a)
below_of w a b y hw h k = gap a b (unscale_le w a b hw (over (w *ℤ a) y (w *ℤ b) h k))
  where
    gap : (a b : ℤ) → a ≤ℤ b → pos 0 ≤ℤ (b -ℤ a)
    gap a b h = omega (arith, ints)

    over : (x y z : ℤ) → x ≤ℤ y → y <ℤ z → x ≤ℤ z
    over x y z h k = omega (arith, ints)

-- with g = b - a not below 0: rw u - qw v = g m
up_farther : (t : Bool) (qw rw u v g m : ℤ) → pos 0 <ℤ qw → pos 0 <ℤ rw → rw *ℤ u -ℤ qw *ℤ v ≡ g *ℤ m → pos 0 ≤ℤ g → pos 0 ≤ℤ m → Below t (pos 0) v → Below t (pos 0) u
up_farther t qw rw u v g m hq hr e hg hm h =
    unscale_Below t rw (pos 0) u hr
    (subst (λ (z : ℤ). Below t z (rw *ℤ u)) (sym (mul_zero rw)) (Below-le t (pos 0) (qw *ℤ v) (rw *ℤ u)
    (subst (λ (z : ℤ). Below t z (qw *ℤ v)) (mul_zero qw) (scale_Below t qw (pos 0) v hq h)) (more (rw *ℤ u) (qw *ℤ v) (g *ℤ m) e (product-nonneg g m hg hm))))
  where
    more : (x y z : ℤ) → x -ℤ y ≡ z → pos 0 ≤ℤ z → y ≤ℤ x
    more x y z e h = omega (arith, ints)

down_farther : (t : Bool) (qw rw u v g m : ℤ) → pos 0 <ℤ qw → pos 0 <ℤ rw → rw *ℤ u -ℤ qw *ℤ v ≡ g *ℤ m → pos 0 ≤ℤ neg_ℤ g → pos 0 ≤ℤ m → Below t v (pos 0) → Below t u (pos 0)
down_farther t qw rw u v g m hq hr e hg hm h =
    unscale_Below t rw u (pos 0) hr
    (subst (λ (z : ℤ). Below t (rw *ℤ u) z) (sym (mul_zero rw)) (le-Below t (rw *ℤ u) (qw *ℤ v) (pos 0) (more (rw *ℤ u) (qw *ℤ v) (g *ℤ m) (neg_ℤ g *ℤ m) e (ring (g ∷ m ∷ []) (minus (var 0) ⊗ var 1) (minus (var 0 ⊗ var 1)) tt) (product-nonneg (neg_ℤ g) m hg hm))
    (subst (λ (z : ℤ). Below t (qw *ℤ v) z) (mul_zero qw) (scale_Below t qw v (pos 0) hq h))))
  where
    more : (x y z z' : ℤ) → x -ℤ y ≡ z → z' ≡ neg_ℤ z → pos 0 ≤ℤ z' → x ≤ℤ y
    more x y z z' e f h = omega (arith, ints)

farther : (t la lb : Bool) (e : Seg) (q r : RationalPoint) → IsRight q r → ReadsLe la (q.w *ℤ e.a.y) q.y → ReadsLe lb (q.w *ℤ e.b.y) q.y → PassBy t la lb (side e r) → PassBy t la lb (side e q)
farther t true true e q r h ra rb p = p
farther t true false e q r h ra rb p =
    up_farther t q.w r.w (side e q) (side e r) (e.b.y -ℤ e.a.y) (r.x *ℤ q.w -ℤ q.x *ℤ r.w) q.positive r.positive (side_gap q.x q.y q.w r.x r.y r.w e.a.x e.a.y e.b.x e.b.y h.level)
    (below_of q.w e.a.y e.b.y q.y q.positive ra rb) (gap (q.x *ℤ r.w) (r.x *ℤ q.w) h.right) p
  where
    gap : (a b : ℤ) → a ≤ℤ b → pos 0 ≤ℤ (b -ℤ a)
    gap a b h = omega (arith, ints)
farther t false true e q r h ra rb p =
    down_farther t q.w r.w (side e q) (side e r) (e.b.y -ℤ e.a.y) (r.x *ℤ q.w -ℤ q.x *ℤ r.w) q.positive r.positive (side_gap q.x q.y q.w r.x r.y r.w e.a.x e.a.y e.b.x e.b.y h.level)
    (turn e.a.y e.b.y (below_of q.w e.b.y e.a.y q.y q.positive rb ra)) (gap (q.x *ℤ r.w) (r.x *ℤ q.w) h.right) p
  where
    gap : (a b : ℤ) → a ≤ℤ b → pos 0 ≤ℤ (b -ℤ a)
    gap a b h = omega (arith, ints)

    turn : (a b : ℤ) → pos 0 ≤ℤ (a -ℤ b) → pos 0 ≤ℤ neg_ℤ (b -ℤ a)
    turn a b h = omega (arith, ints)
farther t false false e q r h ra rb p = p

pub Passes-left : (t : Bool) (e : Seg) (q r : RationalPoint) → IsRight q r → Passes t r e → Passes t q e
Passes-left t e q r h p =
    farther t (is_low q e.a) (is_low q e.b) e q r h (reads_le (q.w *ℤ e.a.y) q.y) (reads_le (q.w *ℤ e.b.y) q.y)
    (subst (λ (z : Bool). PassBy t z (is_low q e.b) (side e r)) (sym (same_low q r e.a h.level))
    (subst (λ (z : Bool). PassBy t (is_low r e.a) z (side e r)) (sym (same_low q r e.b h.level)) p))

-- ---- the rational point of an edge as high as q
-- a rational point on the edge that the edge may meet
pub record Hit (q : RationalPoint) (e : Seg) : Type 0 where
  pub rational_point : RationalPoint
  pub right : IsRight q rational_point
  pub on : IsOn e rational_point
  pub passes : Passes false rational_point e

-- r lies on the line of e
on_line_at : (m i ax ay bx by : ℤ) → (bx -ℤ ax) *ℤ ((m -ℤ i) *ℤ ay +ℤ i *ℤ by -ℤ m *ℤ ay) -ℤ (by -ℤ ay) *ℤ ((m -ℤ i) *ℤ ax +ℤ i *ℤ bx -ℤ m *ℤ ax) ≡ pos 0
on_line_at m i ax ay bx by =
    let M = var 0 in let I = var 1 in let Ax = var 2 in let Ay = var 3 in let Bx = var 4 in let By = var 5 in
    ring (m ∷ i ∷ ax ∷ ay ∷ bx ∷ by ∷ []) ((Bx ⊖ Ax) ⊗ ((M ⊖ I) ⊗ Ay ⊕ I ⊗ By ⊖ M ⊗ Ay) ⊖ (By ⊖ Ay) ⊗ ((M ⊖ I) ⊗ Ax ⊕ I ⊗ Bx ⊖ M ⊗ Ax)) (num (pos 0)) tt

zero_le : (u : ℤ) → u ≡ pos 0 → pos 0 ≤ℤ u
zero_le u h = omega (arith, ints)

zero_ge : (u : ℤ) → u ≡ pos 0 → u ≤ℤ pos 0
zero_ge u h = omega (arith, ints)

pass_zero : (la lb : Bool) (u v : ℤ) → PassBy true la lb u → v ≡ pos 0 → PassBy false la lb v
pass_zero true true u v h e = h
pass_zero true false u v h e = zero_le v e
pass_zero false true u v h e = zero_ge v e
pass_zero false false u v h e = h

make_hit : (q : RationalPoint) (e : Seg) → Passes true q e → (m i : ℤ) (h : pos 0 <ℤ m) → pos 0 ≤ℤ i → i ≤ℤ m → ((m -ℤ i) *ℤ e.a.y +ℤ i *ℤ e.b.y) *ℤ q.w ≡ q.y *ℤ m → (q.x *ℤ m) ≤ℤ (((m -ℤ i) *ℤ e.a.x +ℤ i *ℤ e.b.x) *ℤ q.w) → Hit q e
make_hit q e p m i h h0 h1 level right =
    let r = rational_point_at e m i h in
    record {
      rational_point = r;
      right = record { level = level; right = right };
      on = rational_point_at_IsOn e m i h h0 h1;
      passes = pass_zero (is_low r e.a) (is_low r e.b) (side e q) (side e r)
          (subst (λ (z : Bool). PassBy true z (is_low r e.b) (side e q)) (same_low q r e.a level)
          (subst (λ (z : Bool). PassBy true (is_low q e.a) z (side e q)) (same_low q r e.b level) p))
          (on_line_at m i e.a.x e.a.y e.b.x e.b.y);
    }

-- how far the hit lies to the right
hit_gap : (w x y ax ay bx by : ℤ) → ((w *ℤ (by -ℤ ay) -ℤ (y -ℤ w *ℤ ay)) *ℤ ax +ℤ (y -ℤ w *ℤ ay) *ℤ bx) *ℤ w -ℤ x *ℤ (w *ℤ (by -ℤ ay)) ≡ w *ℤ ((bx -ℤ ax) *ℤ (y -ℤ w *ℤ ay) -ℤ (by -ℤ ay) *ℤ (x -ℤ w *ℤ ax))
hit_gap w x y ax ay bx by =
    let W = var 0 in let X = var 1 in let Y = var 2 in let Ax = var 3 in let Ay = var 4 in let Bx = var 5 in let By = var 6 in
    ring (w ∷ x ∷ y ∷ ax ∷ ay ∷ bx ∷ by ∷ []) (((W ⊗ (By ⊖ Ay) ⊖ (Y ⊖ W ⊗ Ay)) ⊗ Ax ⊕ (Y ⊖ W ⊗ Ay) ⊗ Bx) ⊗ W ⊖ X ⊗ (W ⊗ (By ⊖ Ay))) (W ⊗ ((Bx ⊖ Ax) ⊗ (Y ⊖ W ⊗ Ay) ⊖ (By ⊖ Ay) ⊗ (X ⊖ W ⊗ Ax))) tt

hit_gap_down : (w x y ax ay bx by : ℤ) → ((w *ℤ (ay -ℤ by) -ℤ (w *ℤ ay -ℤ y)) *ℤ ax +ℤ (w *ℤ ay -ℤ y) *ℤ bx) *ℤ w -ℤ x *ℤ (w *ℤ (ay -ℤ by)) ≡ w *ℤ neg_ℤ ((bx -ℤ ax) *ℤ (y -ℤ w *ℤ ay) -ℤ (by -ℤ ay) *ℤ (x -ℤ w *ℤ ax))
hit_gap_down w x y ax ay bx by =
    let W = var 0 in let X = var 1 in let Y = var 2 in let Ax = var 3 in let Ay = var 4 in let Bx = var 5 in let By = var 6 in
    ring (w ∷ x ∷ y ∷ ax ∷ ay ∷ bx ∷ by ∷ []) (((W ⊗ (Ay ⊖ By) ⊖ (W ⊗ Ay ⊖ Y)) ⊗ Ax ⊕ (W ⊗ Ay ⊖ Y) ⊗ Bx) ⊗ W ⊖ X ⊗ (W ⊗ (Ay ⊖ By))) (W ⊗ minus ((Bx ⊖ Ax) ⊗ (Y ⊖ W ⊗ Ay) ⊖ (By ⊖ Ay) ⊗ (X ⊖ W ⊗ Ax))) tt

level_up : (w a b y : ℤ) → ((w *ℤ (b -ℤ a) -ℤ (y -ℤ w *ℤ a)) *ℤ a +ℤ (y -ℤ w *ℤ a) *ℤ b) *ℤ w ≡ y *ℤ (w *ℤ (b -ℤ a))
level_up w a b y =
    let W = var 0 in let A = var 1 in let B = var 2 in let Y = var 3 in
    ring (w ∷ a ∷ b ∷ y ∷ []) (((W ⊗ (B ⊖ A) ⊖ (Y ⊖ W ⊗ A)) ⊗ A ⊕ (Y ⊖ W ⊗ A) ⊗ B) ⊗ W) (Y ⊗ (W ⊗ (B ⊖ A))) tt

level_down : (w a b y : ℤ) → ((w *ℤ (a -ℤ b) -ℤ (w *ℤ a -ℤ y)) *ℤ a +ℤ (w *ℤ a -ℤ y) *ℤ b) *ℤ w ≡ y *ℤ (w *ℤ (a -ℤ b))
level_down w a b y =
    let W = var 0 in let A = var 1 in let B = var 2 in let Y = var 3 in
    ring (w ∷ a ∷ b ∷ y ∷ []) (((W ⊗ (A ⊖ B) ⊖ (W ⊗ A ⊖ Y)) ⊗ A ⊕ (W ⊗ A ⊖ Y) ⊗ B) ⊗ W) (Y ⊗ (W ⊗ (A ⊖ B))) tt

spread : (w a b : ℤ) → w *ℤ (b -ℤ a) ≡ w *ℤ b -ℤ w *ℤ a
spread w a b = ring (w ∷ a ∷ b ∷ []) (var 0 ⊗ (var 2 ⊖ var 1)) (var 0 ⊗ var 2 ⊖ var 0 ⊗ var 1) tt

whole_pos : (m x y z : ℤ) → m ≡ z -ℤ x → x ≤ℤ y → y <ℤ z → pos 0 <ℤ m
whole_pos m x y z e h k = omega (arith, ints)

gap_le : (a b : ℤ) → a ≤ℤ b → pos 0 ≤ℤ (b -ℤ a)
gap_le a b h = omega (arith, ints)

part_up : (m x y z : ℤ) → m ≡ z -ℤ x → y <ℤ z → (y -ℤ x) ≤ℤ m
part_up m x y z e h = omega (arith, ints)

part_down : (m x y z : ℤ) → m ≡ x -ℤ z → z ≤ℤ y → (x -ℤ y) ≤ℤ m
part_down m x y z e h = omega (arith, ints)

by_gap : (x y z : ℤ) → y -ℤ x ≡ z → pos 0 ≤ℤ z → x ≤ℤ y
by_gap x y z e h = omega (arith, ints)

hit_at : (la lb : Bool) (q : RationalPoint) (e : Seg) → ReadsLe la (q.w *ℤ e.a.y) q.y → ReadsLe lb (q.w *ℤ e.b.y) q.y → PassBy true la lb (side e q) → Passes true q e → Hit q e
hit_at true true q e ra rb h p = absurd h
hit_at true false q e ra rb h p =
    let w = q.w in let ay = e.a.y in let by = e.b.y in let m = w *ℤ (by -ℤ ay) in let i = q.y -ℤ w *ℤ ay in
    make_hit q e p m i (whole_pos m (w *ℤ ay) q.y (w *ℤ by) (spread w ay by) ra rb) (gap_le (w *ℤ ay) q.y ra) (part_up m (w *ℤ ay) q.y (w *ℤ by) (spread w ay by) rb)
    (level_up w ay by q.y)
    (by_gap (q.x *ℤ m) (((m -ℤ i) *ℤ e.a.x +ℤ i *ℤ e.b.x) *ℤ w) (w *ℤ side e q) (hit_gap w q.x q.y e.a.x ay e.b.x by) (product-nonneg w (side e q) (lt-le (pos 0) w q.positive) (lt-le (pos 0) (side e q) h)))
hit_at false true q e ra rb h p =
    let w = q.w in let ay = e.a.y in let by = e.b.y in let m = w *ℤ (ay -ℤ by) in let i = w *ℤ ay -ℤ q.y in
    make_hit q e p m i (whole_pos m (w *ℤ by) q.y (w *ℤ ay) (spread w by ay) rb ra) (gap_le q.y (w *ℤ ay) (lt-le q.y (w *ℤ ay) ra)) (part_down m (w *ℤ ay) q.y (w *ℤ by) (spread w by ay) rb)
    (level_down w ay by q.y)
    (by_gap (q.x *ℤ m) (((m -ℤ i) *ℤ e.a.x +ℤ i *ℤ e.b.x) *ℤ w) (w *ℤ neg_ℤ (side e q)) (hit_gap_down w q.x q.y e.a.x ay e.b.x by) (product-nonneg w (neg_ℤ (side e q)) (lt-le (pos 0) w q.positive) (turn (side e q) h)))
  where
    turn : (u : ℤ) → u <ℤ pos 0 → pos 0 ≤ℤ neg_ℤ u
    turn u h = omega (arith, ints)
hit_at false false q e ra rb h p = absurd h

hit : (q : RationalPoint) (e : Seg) → passes q e ≡ true → Hit q e
hit q e h =
    let p = pass_of (is_low q e.a) (is_low q e.b) (side e q) h in
    hit_at (is_low q e.a) (is_low q e.b) q e (reads_le (q.w *ℤ e.a.y) q.y) (reads_le (q.w *ℤ e.b.y) q.y) p p

-- ---- an edge that may meet r either passes to its right or holds r
on_line : (w x y ax ay bx by : ℤ) → (bx -ℤ ax) *ℤ (y -ℤ w *ℤ ay) -ℤ (by -ℤ ay) *ℤ (x -ℤ w *ℤ ax) ≡ pos 0 → w *ℤ (by -ℤ ay) *ℤ x ≡ w *ℤ ((w *ℤ (by -ℤ ay) -ℤ (y -ℤ w *ℤ ay)) *ℤ ax +ℤ (y -ℤ w *ℤ ay) *ℤ bx)
on_line w x y ax ay bx by h =
    let W = var 0 in let X = var 1 in let Y = var 2 in let Ax = var 3 in let Ay = var 4 in let Bx = var 5 in let By = var 6 in
    ring_by (w ∷ x ∷ y ∷ ax ∷ ay ∷ bx ∷ by ∷ []) (fact (minus W) ((Bx ⊖ Ax) ⊗ (Y ⊖ W ⊗ Ay) ⊖ (By ⊖ Ay) ⊗ (X ⊖ W ⊗ Ax)) (num (pos 0)) ∷ []) (h, tt)
    (W ⊗ (By ⊖ Ay) ⊗ X) (W ⊗ ((W ⊗ (By ⊖ Ay) ⊖ (Y ⊖ W ⊗ Ay)) ⊗ Ax ⊕ (Y ⊖ W ⊗ Ay) ⊗ Bx)) tt

on_line_down : (w x y ax ay bx by : ℤ) → (bx -ℤ ax) *ℤ (y -ℤ w *ℤ ay) -ℤ (by -ℤ ay) *ℤ (x -ℤ w *ℤ ax) ≡ pos 0 → w *ℤ (ay -ℤ by) *ℤ x ≡ w *ℤ ((w *ℤ (ay -ℤ by) -ℤ (w *ℤ ay -ℤ y)) *ℤ ax +ℤ (w *ℤ ay -ℤ y) *ℤ bx)
on_line_down w x y ax ay bx by h =
    let W = var 0 in let X = var 1 in let Y = var 2 in let Ax = var 3 in let Ay = var 4 in let Bx = var 5 in let By = var 6 in
    ring_by (w ∷ x ∷ y ∷ ax ∷ ay ∷ bx ∷ by ∷ []) (fact W ((Bx ⊖ Ax) ⊗ (Y ⊖ W ⊗ Ay) ⊖ (By ⊖ Ay) ⊗ (X ⊖ W ⊗ Ax)) (num (pos 0)) ∷ []) (h, tt)
    (W ⊗ (Ay ⊖ By) ⊗ X) (W ⊗ ((W ⊗ (Ay ⊖ By) ⊖ (W ⊗ Ay ⊖ Y)) ⊗ Ax ⊕ (W ⊗ Ay ⊖ Y) ⊗ Bx)) tt

on_level : (w a b y : ℤ) → w *ℤ (b -ℤ a) *ℤ y ≡ w *ℤ ((w *ℤ (b -ℤ a) -ℤ (y -ℤ w *ℤ a)) *ℤ a +ℤ (y -ℤ w *ℤ a) *ℤ b)
on_level w a b y =
    let W = var 0 in let A = var 1 in let B = var 2 in let Y = var 3 in
    ring (w ∷ a ∷ b ∷ y ∷ []) (W ⊗ (B ⊖ A) ⊗ Y) (W ⊗ ((W ⊗ (B ⊖ A) ⊖ (Y ⊖ W ⊗ A)) ⊗ A ⊕ (Y ⊖ W ⊗ A) ⊗ B)) tt

on_level_down : (w a b y : ℤ) → w *ℤ (a -ℤ b) *ℤ y ≡ w *ℤ ((w *ℤ (a -ℤ b) -ℤ (w *ℤ a -ℤ y)) *ℤ a +ℤ (w *ℤ a -ℤ y) *ℤ b)
on_level_down w a b y =
    let W = var 0 in let A = var 1 in let B = var 2 in let Y = var 3 in
    ring (w ∷ a ∷ b ∷ y ∷ []) (W ⊗ (A ⊖ B) ⊗ Y) (W ⊗ ((W ⊗ (A ⊖ B) ⊖ (W ⊗ A ⊖ Y)) ⊗ A ⊕ (W ⊗ A ⊖ Y) ⊗ B)) tt

close : (u : ℤ) → pos 0 ≤ℤ u → u ≤ℤ pos 0 → u ≡ pos 0
close u h k = omega (arith, ints)

meets_at : (la lb : Bool) (r : RationalPoint) (e : Seg) → ReadsLe la (r.w *ℤ e.a.y) r.y → ReadsLe lb (r.w *ℤ e.b.y) r.y → PassBy false la lb (side e r) → PassBy true la lb (side e r) ⊎ IsOn e r
meets_at true true r e ra rb h = absurd h
meets_at true false r e ra rb h = by_lt_z (pos 0) (side e r) inl (λ k.
    let w = r.w in let ay = e.a.y in let by = e.b.y in let m = w *ℤ (by -ℤ ay) in let i = r.y -ℤ w *ℤ ay in
    inr (record {
      part = i;
      whole = m;
      starts = gap_le (w *ℤ ay) r.y ra;
      ends = part_up m (w *ℤ ay) r.y (w *ℤ by) (spread w ay by) rb;
      positive = whole_pos m (w *ℤ ay) r.y (w *ℤ by) (spread w ay by) ra rb;
      along_x = on_line w r.x r.y e.a.x ay e.b.x by (close (side e r) h k);
      along_y = on_level w ay by r.y;
    }))
meets_at false true r e ra rb h = by_lt_z (side e r) (pos 0) inl (λ k.
    let w = r.w in let ay = e.a.y in let by = e.b.y in let m = w *ℤ (ay -ℤ by) in let i = w *ℤ ay -ℤ r.y in
    inr (record {
      part = i;
      whole = m;
      starts = gap_le r.y (w *ℤ ay) (lt-le r.y (w *ℤ ay) ra);
      ends = part_down m (w *ℤ ay) r.y (w *ℤ by) (spread w by ay) rb;
      positive = whole_pos m (w *ℤ by) r.y (w *ℤ ay) (spread w by ay) rb ra;
      along_x = on_line_down w r.x r.y e.a.x ay e.b.x by (close (side e r) k h);
      along_y = on_level_down w ay by r.y;
    }))
meets_at false false r e ra rb h = absurd h

meets : (r : RationalPoint) (e : Seg) → Passes false r e → (passes r e ≡ true) ⊎ IsOn e r
meets r e h = on_left (of_pass (is_low r e.a) (is_low r e.b) (side e r)) (meets_at (is_low r e.a) (is_low r e.b) r e (reads_le (r.w *ℤ e.a.y) r.y) (reads_le (r.w *ℤ e.b.y) r.y) h)

-- ---- the first edge on the ray
-- no edge lies strictly between q and r
abbrev pub IsClear : RationalPoint → RationalPoint → List Seg → Type 0
IsClear q r es = EachEdge (λ e. passes q e ≡ true → Passes false r e) es

pub record First (q : RationalPoint) (es : List Seg) : Type 0 where
  pub rational_point : RationalPoint
  pub right : IsRight q rational_point
  pub on : SomeEdge (λ e. IsOn e rational_point) es
  pub clear : IsClear q rational_point es

pub IsClear-left : (q r s : RationalPoint) → IsRight r s → (es : List Seg) → IsClear q s es → IsClear q r es
IsClear-left q r s h [] c = tt
IsClear-left q r s h (e ∷ es) c = (λ p. Passes-left false e r s h (c.0 p), IsClear-left q r s h es c.1)

abbrev NonePass : RationalPoint → List Seg → Type 0
NonePass q es = EachEdge (λ e. passes q e ≡ false) es

not_both : (b : Bool) → b ≡ false → b ≡ true → ⊥
not_both b h k = cc

clear_of_none : (q r : RationalPoint) (es : List Seg) → NonePass q es → IsClear q r es
clear_of_none q r [] h = tt
clear_of_none q r (e ∷ es) h = (λ p. absurd (not_both (passes q e) h.0 p), clear_of_none q r es h.1)

-- two rational points to the right of q, one of which is not to the right of the other
level_both : (qy qw ry rw sy sw : ℤ) → pos 0 <ℤ qw → ry *ℤ qw ≡ qy *ℤ rw → sy *ℤ qw ≡ qy *ℤ sw → sy *ℤ rw ≡ ry *ℤ sw
level_both qy qw ry rw sy sw h e f =
    let Qy = var 0 in let Qw = var 1 in let Ry = var 2 in let Rw = var 3 in let Sy = var 4 in let Sw = var 5 in
    same_by_scale qw (sy *ℤ rw) (ry *ℤ sw) h
    (ring_by (qy ∷ qw ∷ ry ∷ rw ∷ sy ∷ sw ∷ []) (fact (minus Sw) (Ry ⊗ Qw) (Qy ⊗ Rw) ∷ fact Rw (Sy ⊗ Qw) (Qy ⊗ Sw) ∷ []) (e, (f, tt)) (Qw ⊗ (Sy ⊗ Rw)) (Qw ⊗ (Ry ⊗ Sw)) tt)

pub either_right : (q r s : RationalPoint) → IsRight q r → IsRight q s → IsRight r s ⊎ IsRight s r
either_right q r s h k = by_lt_z (s.x *ℤ r.w) (r.x *ℤ s.w)
    (λ l. inr (record { level = level_both q.y q.w s.y s.w r.y r.w q.positive k.level h.level; right = lt-le (s.x *ℤ r.w) (r.x *ℤ s.w) l }))
    (λ l. inl (record { level = level_both q.y q.w r.y r.w s.y s.w q.positive h.level k.level; right = l }))

nearer : (q : RationalPoint) (e : Seg) (es : List Seg) (h : Hit q e) (f : First q es) → IsRight h.rational_point f.rational_point ⊎ IsRight f.rational_point h.rational_point → First q (e ∷ es)
nearer q e es h f (inl o) = record { rational_point = h.rational_point; right = h.right; on = inl h.on; clear = (λ _. h.passes, IsClear-left q h.rational_point f.rational_point o es f.clear) }
nearer q e es h f (inr o) = record { rational_point = f.rational_point; right = f.right; on = inr f.on; clear = (λ _. Passes-left false e f.rational_point h.rational_point o h.passes, f.clear) }

first_step : (q : RationalPoint) (e : Seg) (es : List Seg) (b : Bool) → passes q e ≡ b → NonePass q es ⊎ First q es → NonePass q (e ∷ es) ⊎ First q (e ∷ es)
first_step q e es false p (inl n) = inl (p, n)
first_step q e es false p (inr f) = inr (record { rational_point = f.rational_point; right = f.right; on = inr f.on; clear = (λ k. absurd (not_both (passes q e) p k), f.clear) })
first_step q e es true p (inl n) = let h = hit q e p in inr (record { rational_point = h.rational_point; right = h.right; on = inl h.on; clear = (λ _. h.passes, clear_of_none q h.rational_point es n) })
first_step q e es true p (inr f) = let h = hit q e p in inr (nearer q e es h f (either_right q h.rational_point f.rational_point h.right f.right))

first_or_none : (q : RationalPoint) (es : List Seg) → NonePass q es ⊎ First q es
first_or_none q [] = inl tt
first_or_none q (e ∷ es) = first_step q e es (passes q e) refl (first_or_none q es)

none-even : (q : RationalPoint) (es : List Seg) → NonePass q es → is_odd q es ≡ false
none-even q [] h = refl
none-even q (e ∷ es) h = ap (λ b. differ b (is_odd q es)) h.0 ∙ none-even q es h.1

first_by : (q : RationalPoint) (es : List Seg) → is_odd q es ≡ true → NonePass q es ⊎ First q es → First q es
first_by q es h (inl n) = absurd (not_both (is_odd q es) (none-even q es n) h)
first_by q es h (inr f) = f

pub first : (q : RationalPoint) (es : List Seg) → is_odd q es ≡ true → First q es
first q es h = first_by q es h (first_or_none q es)

-- ---- along a clear way the parity stays, unless an edge holds its end
clear_at : (q r : RationalPoint) → IsRight q r → (e : Seg) → (passes q e ≡ true → Passes false r e) → (b c : Bool) → passes q e ≡ b → passes r e ≡ c → (passes q e ≡ passes r e) ⊎ IsOn e r
clear_at q r o e k true true p s = inl (p ∙ sym s)
clear_at q r o e k false false p s = inl (p ∙ sym s)
clear_at q r o e k true false p s = on_left (λ x. p ∙ sym x) (meets r e (k p))
clear_at q r o e k false true p s = inl (absurd (not_both (passes q e) p (of_pass (is_low q e.a) (is_low q e.b) (side e q) (Passes-left true e q r o (pass_of (is_low r e.a) (is_low r e.b) (side e r) s)))))

both_differ : (a b c d : Bool) → a ≡ c → b ≡ d → differ a b ≡ differ c d
both_differ a b c d e f = ap (λ z. differ z b) e ∙ ap (λ z. differ c z) f

pub clear_parity : (q r : RationalPoint) → IsRight q r → (es : List Seg) → IsClear q r es → (is_odd q es ≡ is_odd r es) ⊎ SomeEdge (λ e. IsOn e r) es
clear_parity q r o [] c = inl refl
clear_parity q r o (e ∷ es) c = both_steps (both_differ (passes q e) (is_odd q es) (passes r e) (is_odd r es)) (clear_at q r o e c.0 (passes q e) (passes r e) refl refl) (clear_parity q r o es c.1)
