-- Where no edge meets the way from one rational point to another, an odd number of edges passes to the right of both or of neither.
use Rattle.std.proofs.Common.{◌≡◌, ℤ, pos, ◌+ℤ◌, ◌-ℤ◌, ◌*ℤ◌, neg_ℤ, ◌≤ℤ◌, ◌<ℤ◌, ◌⊎◌, Bool, true, false, List, [], ◌∷◌, refl, sym, ap, ◌∙◌, inl, inr, arith}
use Rattle.std.proofs.lemmas.Int.{ints, by_lt_z}
use Rattle.std.specs.Int.Signed.{lt_z}
use Rattle.int_algebra.proofs.Ring.{Expr, var, num, ◌⊕◌, ◌⊖◌, ◌⊗◌, minus, fact, ring, ring_by}
use Rattle.int_algebra.proofs.Order.{product-pos, scale_le, scale_lt}
use Rattle.geo_seg.specs.declared.points.Point.{Point}
use Rattle.geo_seg.specs.declared.points.Seg.{Seg}
use Rattle.geo_seg.specs.Points.{RationalPoint, IsOn}
use Rattle.geo_seg.proofs.PointReach.{rational_point_at, rational_point_at_IsOn}
use Rattle.geo_seg.specs.Inside.{edge, path, last_of, outline, SomeEdge, is_low, side, passing, passes}
use Rattle.geo_seg.proofs.Parity.{differ, is_odd}
use Rattle.geo_poly.proofs.Sides.{ReadsLe, ReadsLt, reads_le, reads_lt, Lines, Cut, falls, climbs, marking, core, on_both}
use Rattle.geo_poly.proofs.Between.{IsBetween, IsBetween-back}

-- ---- places given by whole numbers
abbrev pub side_of : ℤ → ℤ → ℤ → ℤ → ℤ → ℤ → ℤ
side_of ax ay bx by px py = (bx -ℤ ax) *ℤ (py -ℤ ay) -ℤ (by -ℤ ay) *ℤ (px -ℤ ax)

abbrev Px : Expr
Px = var 0

abbrev Py : Expr
Py = var 1

abbrev Qx : Expr
Qx = var 2

abbrev Qy : Expr
Qy = var 3

abbrev Ax : Expr
Ax = var 4

abbrev Ay : Expr
Ay = var 5

abbrev Bx : Expr
Bx = var 6

abbrev By : Expr
By = var 7

abbrev side' : Expr → Expr → Expr → Expr → Expr → Expr → Expr
side' ax ay bx by px py = (bx ⊖ ax) ⊗ (py ⊖ ay) ⊖ (by ⊖ ay) ⊗ (px ⊖ ax)

abbrev sP' : Expr
sP' = side' Ax Ay Bx By Px Py

abbrev sQ' : Expr
sQ' = side' Ax Ay Bx By Qx Qy

abbrev tA' : Expr
tA' = side' Px Py Qx Qy Ax Ay

abbrev tB' : Expr
tB' = side' Px Py Qx Qy Bx By

abbrev places : (px py qx qy ax ay bx by : ℤ) → List ℤ
places px py qx qy ax ay bx by = px ∷ py ∷ qx ∷ qy ∷ ax ∷ ay ∷ bx ∷ by ∷ []

lines_of : (px py qx qy ax ay bx by : ℤ) → py ≤ℤ qy → Lines py qy ay by (side_of ax ay bx by px py) (side_of ax ay bx by qx qy) (side_of px py qx qy ax ay) (side_of px py qx qy bx by)
lines_of px py qx qy ax ay bx by h =
    let xs = places px py qx qy ax ay bx by in
    record {
      rises = h;
      turns = ring xs (sP' ⊖ sQ') (tB' ⊖ tA') tt;
      at_ap = ring xs ((sP' ⊖ sQ') ⊗ (Ay ⊖ Py)) (tA' ⊗ (By ⊖ Ay) ⊕ sP' ⊗ (Qy ⊖ Py)) tt;
      at_aq = ring xs ((sP' ⊖ sQ') ⊗ (Ay ⊖ Qy)) (tA' ⊗ (By ⊖ Ay) ⊕ sQ' ⊗ (Qy ⊖ Py)) tt;
      at_bp = ring xs ((sP' ⊖ sQ') ⊗ (By ⊖ Py)) (tB' ⊗ (By ⊖ Ay) ⊕ sP' ⊗ (Qy ⊖ Py)) tt;
      at_bq = ring xs ((sP' ⊖ sQ') ⊗ (By ⊖ Qy)) (tB' ⊗ (By ⊖ Ay) ⊕ sQ' ⊗ (Qy ⊖ Py)) tt;
    }

-- where the lines cut, seen along the edge and along the segment
meet_x : (px py qx qy ax ay bx by : ℤ) → let K = side_of ax ay bx by px py -ℤ side_of ax ay bx by qx qy in let t = side_of px py qx qy ax ay in let s = side_of ax ay bx by px py in (K -ℤ neg_ℤ t) *ℤ ax +ℤ neg_ℤ t *ℤ bx ≡ (K -ℤ s) *ℤ px +ℤ s *ℤ qx
meet_x px py qx qy ax ay bx by = ring (places px py qx qy ax ay bx by) ((sP' ⊖ sQ' ⊖ minus tA') ⊗ Ax ⊕ minus tA' ⊗ Bx) ((sP' ⊖ sQ' ⊖ sP') ⊗ Px ⊕ sP' ⊗ Qx) tt

meet_y : (px py qx qy ax ay bx by : ℤ) → let K = side_of ax ay bx by px py -ℤ side_of ax ay bx by qx qy in let t = side_of px py qx qy ax ay in let s = side_of ax ay bx by px py in (K -ℤ neg_ℤ t) *ℤ ay +ℤ neg_ℤ t *ℤ by ≡ (K -ℤ s) *ℤ py +ℤ s *ℤ qy
meet_y px py qx qy ax ay bx by = ring (places px py qx qy ax ay bx by) ((sP' ⊖ sQ' ⊖ minus tA') ⊗ Ay ⊕ minus tA' ⊗ By) ((sP' ⊖ sQ' ⊖ sP') ⊗ Py ⊕ sP' ⊗ Qy) tt

-- ---- tests of numbers times a number above 0
pub ReadsLe_scaled : (b : Bool) (c x y x' y' : ℤ) → pos 0 ≤ℤ c → pos 0 <ℤ c → c *ℤ x ≡ x' → c *ℤ y ≡ y' → ReadsLe b x y → ReadsLe b x' y'
ReadsLe_scaled true c x y x' y' h0 h e f r = along (c *ℤ x) (c *ℤ y) x' y' e f (scale_le c x y h0 r)
  where
    along : (x y x' y' : ℤ) → x ≡ x' → y ≡ y' → x ≤ℤ y → x' ≤ℤ y'
    along x y x' y' e f h = omega (arith, ints)
ReadsLe_scaled false c x y x' y' h0 h e f r = along (c *ℤ y) (c *ℤ x) y' x' f e (scale_lt c y x h r)
  where
    along : (x y x' y' : ℤ) → x ≡ x' → y ≡ y' → x <ℤ y → x' <ℤ y'
    along x y x' y' e f h = omega (arith, ints)

pub ReadsLt_scaled : (b : Bool) (c x y x' y' : ℤ) → pos 0 ≤ℤ c → pos 0 <ℤ c → c *ℤ x ≡ x' → c *ℤ y ≡ y' → ReadsLt b x y → ReadsLt b x' y'
ReadsLt_scaled true c x y x' y' h0 h e f r = ReadsLe_scaled false c y x y' x' h0 h f e r
ReadsLt_scaled false c x y x' y' h0 h e f r = ReadsLe_scaled true c y x y' x' h0 h f e r

pub same_lt : (b c : Bool) (x y : ℤ) → ReadsLt b x y → ReadsLt c x y → b ≡ c
same_lt true true x y h k = refl
same_lt false false x y h k = refl
same_lt true false x y h k = absurd (clash x y h k)
  where
    clash : (x y : ℤ) → x <ℤ y → y ≤ℤ x → ⊥
    clash x y h k = omega (arith, ints)
same_lt false true x y h k = absurd (clash x y k h)
  where
    clash : (x y : ℤ) → x <ℤ y → y ≤ℤ x → ⊥
    clash x y h k = omega (arith, ints)

weak : (x : ℤ) → pos 0 <ℤ x → pos 0 ≤ℤ x
weak x h = omega (arith, ints)

mul_zero : (c : ℤ) → c *ℤ pos 0 ≡ pos 0
mul_zero c = omega (arith, ints)

pub passing_scaled : (la lb : Bool) (c u v : ℤ) → pos 0 <ℤ c → c *ℤ u ≡ v → passing la lb u ≡ passing la lb v
passing_scaled true true c u v h e = refl
passing_scaled true false c u v h e = same_lt (lt_z (pos 0) u) (lt_z (pos 0) v) (pos 0) v (ReadsLt_scaled (lt_z (pos 0) u) c (pos 0) u (pos 0) v (weak c h) h (mul_zero c) e (reads_lt (pos 0) u)) (reads_lt (pos 0) v)
passing_scaled false true c u v h e = same_lt (lt_z u (pos 0)) (lt_z v (pos 0)) v (pos 0) (ReadsLt_scaled (lt_z u (pos 0)) c u (pos 0) v (pos 0) (weak c h) h e (mul_zero c) (reads_lt u (pos 0))) (reads_lt v (pos 0))
passing_scaled false false c u v h e = refl

-- ---- one edge
pub record Crossed (e : Seg) (p q : RationalPoint) : Type 0 where
  pub rational_point : RationalPoint
  pub on : IsOn e rational_point
  pub between : IsBetween p q rational_point

Crossed-back : (e : Seg) (p q : RationalPoint) → Crossed e p q → Crossed e q p
Crossed-back e p q c = record { rational_point = c.rational_point; on = c.on; between = IsBetween-back p q c.rational_point c.between }

-- p and q over one denominator
abbrev over : RationalPoint → RationalPoint → ℤ
over p q = p.w *ℤ q.w

abbrev sideP : Seg → RationalPoint → RationalPoint → ℤ
sideP e p q = side_of (over p q *ℤ e.a.x) (over p q *ℤ e.a.y) (over p q *ℤ e.b.x) (over p q *ℤ e.b.y) (p.x *ℤ q.w) (p.y *ℤ q.w)

abbrev sideQ : Seg → RationalPoint → RationalPoint → ℤ
sideQ e p q = side_of (over p q *ℤ e.a.x) (over p q *ℤ e.a.y) (over p q *ℤ e.b.x) (over p q *ℤ e.b.y) (q.x *ℤ p.w) (q.y *ℤ p.w)

abbrev sideC : Point → RationalPoint → RationalPoint → ℤ
sideC c p q = side_of (p.x *ℤ q.w) (p.y *ℤ q.w) (q.x *ℤ p.w) (q.y *ℤ p.w) (over p q *ℤ c.x) (over p q *ℤ c.y)

abbrev mark : RationalPoint → RationalPoint → Point → Bool
mark p q c = marking (is_low p c) (is_low q c) (sideC c p q)

side_p : (px py pw qw ax ay bx by : ℤ) → pw *ℤ qw *ℤ qw *ℤ ((bx -ℤ ax) *ℤ (py -ℤ pw *ℤ ay) -ℤ (by -ℤ ay) *ℤ (px -ℤ pw *ℤ ax)) ≡ side_of (pw *ℤ qw *ℤ ax) (pw *ℤ qw *ℤ ay) (pw *ℤ qw *ℤ bx) (pw *ℤ qw *ℤ by) (px *ℤ qw) (py *ℤ qw)
side_p px py pw qw ax ay bx by =
    let Pw = var 2 in let Qw = var 3 in
    ring (px ∷ py ∷ pw ∷ qw ∷ ax ∷ ay ∷ bx ∷ by ∷ []) (Pw ⊗ Qw ⊗ Qw ⊗ ((Bx ⊖ Ax) ⊗ (Py ⊖ Pw ⊗ Ay) ⊖ (By ⊖ Ay) ⊗ (Px ⊖ Pw ⊗ Ax)))
    (side' (Pw ⊗ Qw ⊗ Ax) (Pw ⊗ Qw ⊗ Ay) (Pw ⊗ Qw ⊗ Bx) (Pw ⊗ Qw ⊗ By) (Px ⊗ Qw) (Py ⊗ Qw)) tt

side_q : (px py pw qw ax ay bx by : ℤ) → qw *ℤ pw *ℤ qw *ℤ ((bx -ℤ ax) *ℤ (py -ℤ pw *ℤ ay) -ℤ (by -ℤ ay) *ℤ (px -ℤ pw *ℤ ax)) ≡ side_of (qw *ℤ pw *ℤ ax) (qw *ℤ pw *ℤ ay) (qw *ℤ pw *ℤ bx) (qw *ℤ pw *ℤ by) (px *ℤ qw) (py *ℤ qw)
side_q px py pw qw ax ay bx by =
    let Pw = var 2 in let Qw = var 3 in
    ring (px ∷ py ∷ pw ∷ qw ∷ ax ∷ ay ∷ bx ∷ by ∷ []) (Qw ⊗ Pw ⊗ Qw ⊗ ((Bx ⊖ Ax) ⊗ (Py ⊖ Pw ⊗ Ay) ⊖ (By ⊖ Ay) ⊗ (Px ⊖ Pw ⊗ Ax)))
    (side' (Qw ⊗ Pw ⊗ Ax) (Qw ⊗ Pw ⊗ Ay) (Qw ⊗ Pw ⊗ Bx) (Qw ⊗ Pw ⊗ By) (Px ⊗ Qw) (Py ⊗ Qw)) tt

low_p : (pw qw ay : ℤ) → qw *ℤ (pw *ℤ ay) ≡ pw *ℤ qw *ℤ ay
low_p pw qw ay = ring (pw ∷ qw ∷ ay ∷ []) (var 1 ⊗ (var 0 ⊗ var 2)) (var 0 ⊗ var 1 ⊗ var 2) tt

low_q : (pw qw ay : ℤ) → pw *ℤ (qw *ℤ ay) ≡ pw *ℤ qw *ℤ ay
low_q pw qw ay = ring (pw ∷ qw ∷ ay ∷ []) (var 0 ⊗ (var 1 ⊗ var 2)) (var 0 ⊗ var 1 ⊗ var 2) tt

swap_mul : (a b : ℤ) → a *ℤ b ≡ b *ℤ a
swap_mul a b = ring (a ∷ b ∷ []) (var 0 ⊗ var 1) (var 1 ⊗ var 0) tt

low_reads_p : (p q : RationalPoint) (c : Point) → ReadsLe (is_low p c) (over p q *ℤ c.y) (p.y *ℤ q.w)
low_reads_p p q c = ReadsLe_scaled (is_low p c) q.w (p.w *ℤ c.y) p.y (over p q *ℤ c.y) (p.y *ℤ q.w) (weak q.w q.positive) q.positive (low_p p.w q.w c.y) (swap_mul q.w p.y) (reads_le (p.w *ℤ c.y) p.y)

low_reads_q : (p q : RationalPoint) (c : Point) → ReadsLe (is_low q c) (over p q *ℤ c.y) (q.y *ℤ p.w)
low_reads_q p q c = ReadsLe_scaled (is_low q c) p.w (q.w *ℤ c.y) q.y (over p q *ℤ c.y) (q.y *ℤ p.w) (weak p.w p.positive) p.positive (low_q p.w q.w c.y) (swap_mul p.w q.y) (reads_le (q.w *ℤ c.y) q.y)

-- the rational point where they meet, part / whole of the way along the edge
rational_point_between_at : (w m i j a b p q : ℤ) → (m -ℤ i) *ℤ (w *ℤ a) +ℤ i *ℤ (w *ℤ b) ≡ (m -ℤ j) *ℤ p +ℤ j *ℤ q → m *ℤ (w *ℤ ((m -ℤ i) *ℤ a +ℤ i *ℤ b)) ≡ m *ℤ ((m -ℤ j) *ℤ p +ℤ j *ℤ q)
rational_point_between_at w m i j a b p q h =
    let W = var 0 in let M = var 1 in let I = var 2 in let J = var 3 in let A = var 4 in let B = var 5 in let P = var 6 in let Q = var 7 in
    ring_by (w ∷ m ∷ i ∷ j ∷ a ∷ b ∷ p ∷ q ∷ []) (fact M ((M ⊖ I) ⊗ (W ⊗ A) ⊕ I ⊗ (W ⊗ B)) ((M ⊖ J) ⊗ P ⊕ J ⊗ Q) ∷ []) (h, tt)
    (M ⊗ (W ⊗ ((M ⊖ I) ⊗ A ⊕ I ⊗ B))) (M ⊗ ((M ⊖ J) ⊗ P ⊕ J ⊗ Q)) tt

crossed_by : (e : Seg) (p q : RationalPoint) (m i j : ℤ) → pos 0 <ℤ m → pos 0 ≤ℤ i → i ≤ℤ m → pos 0 ≤ℤ j → j ≤ℤ m
    → (m -ℤ i) *ℤ (over p q *ℤ e.a.x) +ℤ i *ℤ (over p q *ℤ e.b.x) ≡ (m -ℤ j) *ℤ (p.x *ℤ q.w) +ℤ j *ℤ (q.x *ℤ p.w)
    → (m -ℤ i) *ℤ (over p q *ℤ e.a.y) +ℤ i *ℤ (over p q *ℤ e.b.y) ≡ (m -ℤ j) *ℤ (p.y *ℤ q.w) +ℤ j *ℤ (q.y *ℤ p.w)
    → Crossed e p q
crossed_by e p q m i j h i0 i1 j0 j1 ex ey = record {
  rational_point = rational_point_at e m i h;
  on = rational_point_at_IsOn e m i h i0 i1;
  between = record {
    part = j;
    whole = m;
    starts = j0;
    ends = j1;
    positive = h;
    along_x = rational_point_between_at (over p q) m i j e.a.x e.b.x (p.x *ℤ q.w) (q.x *ℤ p.w) ex;
    along_y = rational_point_between_at (over p q) m i j e.a.y e.b.y (p.y *ℤ q.w) (q.y *ℤ p.w) ey;
  };
}

-- the same with each number of the other sign
negated : (k i j a b p q : ℤ) → (k -ℤ neg_ℤ i) *ℤ a +ℤ neg_ℤ i *ℤ b ≡ (k -ℤ j) *ℤ p +ℤ j *ℤ q → (neg_ℤ k -ℤ i) *ℤ a +ℤ i *ℤ b ≡ (neg_ℤ k -ℤ neg_ℤ j) *ℤ p +ℤ neg_ℤ j *ℤ q
negated k i j a b p q h =
    let K = var 0 in let I = var 1 in let J = var 2 in let A = var 3 in let B = var 4 in let P = var 5 in let Q = var 6 in
    ring_by (k ∷ i ∷ j ∷ a ∷ b ∷ p ∷ q ∷ []) (fact (minus (num (pos 1))) ((K ⊖ minus I) ⊗ A ⊕ minus I ⊗ B) ((K ⊖ J) ⊗ P ⊕ J ⊗ Q) ∷ []) (h, tt)
    ((minus K ⊖ I) ⊗ A ⊕ I ⊗ B) ((minus K ⊖ minus J) ⊗ P ⊕ minus J ⊗ Q) tt

cut_crossed : (e : Seg) (p q : RationalPoint) → Cut (sideP e p q) (sideQ e p q) (sideC e.a p q) (sideC e.b p q) → sideP e p q -ℤ sideQ e p q ≡ sideC e.b p q -ℤ sideC e.a p q → Crossed e p q
cut_crossed e p q (falls sp sq ta tb k) t =
    let ax = over p q *ℤ e.a.x in let ay = over p q *ℤ e.a.y in let bx = over p q *ℤ e.b.x in let by = over p q *ℤ e.b.y in
    let px = p.x *ℤ q.w in let py = p.y *ℤ q.w in let qx = q.x *ℤ p.w in let qy = q.y *ℤ p.w in
    crossed_by e p q (sideP e p q -ℤ sideQ e p q) (neg_ℤ (sideC e.a p q)) (sideP e p q) k
    (up (sideC e.a p q) ta) (past (sideP e p q) (sideQ e p q) (sideC e.a p q) (sideC e.b p q) t tb) sp (rest (sideP e p q) (sideQ e p q) sq)
    (meet_x px py qx qy ax ay bx by) (meet_y px py qx qy ax ay bx by)
  where
    up : (x : ℤ) → x ≤ℤ pos 0 → pos 0 ≤ℤ neg_ℤ x
    up x h = omega (arith, ints)

    past : (a b c d : ℤ) → a -ℤ b ≡ d -ℤ c → pos 0 ≤ℤ d → neg_ℤ c ≤ℤ (a -ℤ b)
    past a b c d e h = omega (arith, ints)

    rest : (a b : ℤ) → b ≤ℤ pos 0 → a ≤ℤ (a -ℤ b)
    rest a b h = omega (arith, ints)
cut_crossed e p q (climbs sp sq ta tb k) t =
    let ax = over p q *ℤ e.a.x in let ay = over p q *ℤ e.a.y in let bx = over p q *ℤ e.b.x in let by = over p q *ℤ e.b.y in
    let px = p.x *ℤ q.w in let py = p.y *ℤ q.w in let qx = q.x *ℤ p.w in let qy = q.y *ℤ p.w in
    crossed_by e p q (neg_ℤ (sideP e p q -ℤ sideQ e p q)) (sideC e.a p q) (neg_ℤ (sideP e p q)) (turn (sideP e p q) (sideQ e p q) k)
    ta (past (sideP e p q) (sideQ e p q) (sideC e.a p q) (sideC e.b p q) t tb) (up (sideP e p q) sp) (rest (sideP e p q) (sideQ e p q) sq)
    (negated (sideP e p q -ℤ sideQ e p q) (sideC e.a p q) (sideP e p q) ax bx px qx (meet_x px py qx qy ax ay bx by))
    (negated (sideP e p q -ℤ sideQ e p q) (sideC e.a p q) (sideP e p q) ay by py qy (meet_y px py qx qy ax ay bx by))
  where
    up : (x : ℤ) → x ≤ℤ pos 0 → pos 0 ≤ℤ neg_ℤ x
    up x h = omega (arith, ints)

    turn : (a b : ℤ) → pos 0 <ℤ (b -ℤ a) → pos 0 <ℤ neg_ℤ (a -ℤ b)
    turn a b h = omega (arith, ints)

    past : (a b c d : ℤ) → a -ℤ b ≡ d -ℤ c → d ≤ℤ pos 0 → c ≤ℤ neg_ℤ (a -ℤ b)
    past a b c d e h = omega (arith, ints)

    rest : (a b : ℤ) → pos 0 ≤ℤ b → neg_ℤ a ≤ℤ neg_ℤ (a -ℤ b)
    rest a b h = omega (arith, ints)

abbrev Agrees : Seg → RationalPoint → RationalPoint → Type 0
Agrees e p q = differ (passes p e) (passes q e) ≡ differ (mark p q e.a) (mark p q e.b)

edge_step : (e : Seg) (p q : RationalPoint) → (p.y *ℤ q.w) ≤ℤ (q.y *ℤ p.w) → Agrees e p q ⊎ Crossed e p q
edge_step e p q h =
    let ax = over p q *ℤ e.a.x in let ay = over p q *ℤ e.a.y in let bx = over p q *ℤ e.b.x in let by = over p q *ℤ e.b.y in
    let px = p.x *ℤ q.w in let py = p.y *ℤ q.w in let qx = q.x *ℤ p.w in let qy = q.y *ℤ p.w in
    let l = lines_of px py qx qy ax ay bx by h in
    let la = is_low p e.a in let lb = is_low p e.b in let ka = is_low q e.a in let kb = is_low q e.b in
    let ww = product-pos p.w q.w p.positive q.positive in
    let sp = passing_scaled la lb (over p q *ℤ q.w) (side e p) (sideP e p q) (product-pos (over p q) q.w ww q.positive) (side_p p.x p.y p.w q.w e.a.x e.a.y e.b.x e.b.y) in
    let sq = passing_scaled ka kb (over p q *ℤ p.w) (side e q) (sideQ e p q) (product-pos (over p q) p.w ww p.positive) (side_q q.x q.y q.w p.w e.a.x e.a.y e.b.x e.b.y) in
    on_both (λ x. ap (λ z. differ z (passes q e)) sp ∙ ap (λ z. differ (passing la lb (sideP e p q)) z) sq ∙ x) (λ c. cut_crossed e p q c l.turns)
    (core la lb ka kb py qy ay by (sideP e p q) (sideQ e p q) (sideC e.a p q) (sideC e.b p q) l (low_reads_p p q e.a) (low_reads_p p q e.b) (low_reads_q p q e.a) (low_reads_q p q e.b))

-- ---- the whole outline
differ_swap : (x y z t : Bool) → differ (differ x y) (differ z t) ≡ differ (differ x z) (differ y t)
differ_swap true true true true = refl
differ_swap true true true false = refl
differ_swap true true false true = refl
differ_swap true true false false = refl
differ_swap true false true true = refl
differ_swap true false true false = refl
differ_swap true false false true = refl
differ_swap true false false false = refl
differ_swap false true true true = refl
differ_swap false true true false = refl
differ_swap false true false true = refl
differ_swap false true false false = refl
differ_swap false false true true = refl
differ_swap false false true false = refl
differ_swap false false false true = refl
differ_swap false false false false = refl

differ_join : (x y z : Bool) → differ (differ x y) (differ y z) ≡ differ x z
differ_join true true true = refl
differ_join true true false = refl
differ_join true false true = refl
differ_join true false false = refl
differ_join false true true = refl
differ_join false true false = refl
differ_join false false true = refl
differ_join false false false = refl

differ_self : (x : Bool) → false ≡ differ x x
differ_self true = refl
differ_self false = refl

same_of_differ : (x y : Bool) → differ x y ≡ false → x ≡ y
same_of_differ true true e = refl
same_of_differ false false e = refl
same_of_differ true false e = e
same_of_differ false true e = sym e

link : (x y z t a b c : Bool) → differ x z ≡ differ a b → differ y t ≡ differ b c → differ (differ x y) (differ z t) ≡ differ a c
link x y z t a b c e f = differ_swap x y z t ∙ ap (λ v. differ v (differ y t)) e ∙ ap (λ v. differ (differ a b) v) f ∙ differ_join a b c

pub both_steps : {A B C P Q : Type 0} → (A → B → C) → A ⊎ P → B ⊎ Q → C ⊎ (P ⊎ Q)
both_steps f (inl a) (inl b) = inl (f a b)
both_steps f (inr p) b = inr (inl p)
both_steps f (inl a) (inr q) = inr (inr q)

path_step : (p q : RationalPoint) → (p.y *ℤ q.w) ≤ℤ (q.y *ℤ p.w) → (a : Point) (cs : List Point) → (differ (is_odd p (path a cs)) (is_odd q (path a cs)) ≡ differ (mark p q a) (mark p q (last_of a cs))) ⊎ SomeEdge (λ e. Crossed e p q) (path a cs)
path_step p q h a [] = inl (differ_self (mark p q a))
path_step p q h a (b ∷ cs) = both_steps
    (link (passes p (edge a b)) (is_odd p (path b cs)) (passes q (edge a b)) (is_odd q (path b cs)) (mark p q a) (mark p q b) (mark p q (last_of b cs)))
    (edge_step (edge a b) p q h) (path_step p q h b cs)

outline_step : (p q : RationalPoint) → (p.y *ℤ q.w) ≤ℤ (q.y *ℤ p.w) → (cs : List Point) → (is_odd p (outline cs) ≡ is_odd q (outline cs)) ⊎ SomeEdge (λ e. Crossed e p q) (outline cs)
outline_step p q h [] = inl refl
outline_step p q h (c ∷ cs) =
    let es = outline (c ∷ cs) in
    on_both (λ x. same_of_differ (is_odd p es) (is_odd q es) (x ∙ sym (differ_self (mark p q (last_of c cs))))) (λ x. x) (path_step p q h (last_of c cs) (c ∷ cs))

pub SomeEdge-weaker : {P Q : Seg → Type 0} → ((e : Seg) → P e → Q e) → (es : List Seg) → SomeEdge P es → SomeEdge Q es
SomeEdge-weaker f [] x = x
SomeEdge-weaker f (e ∷ es) (inl x) = inl (f e x)
SomeEdge-weaker f (e ∷ es) (inr x) = inr (SomeEdge-weaker f es x)

-- the parities of p and q agree, or an edge meets the way from p to q
pub same_or_crossed : (cs : List Point) (p q : RationalPoint) → (is_odd p (outline cs) ≡ is_odd q (outline cs)) ⊎ SomeEdge (λ e. Crossed e p q) (outline cs)
same_or_crossed cs p q = by_lt_z (q.y *ℤ p.w) (p.y *ℤ q.w)
    (λ h. on_both sym (SomeEdge-weaker (λ e. Crossed-back e q p) (outline cs)) (outline_step q p (low (q.y *ℤ p.w) (p.y *ℤ q.w) h) cs))
    (λ h. outline_step p q h cs)
  where
    low : (x y : ℤ) → x <ℤ y → x ≤ℤ y
    low x y h = omega (arith, ints)
