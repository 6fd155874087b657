-- A polygon and a segment: where some rational points of them are near, an edge is near, or the segment begins inside.
use Rattle.std.proofs.Common.{◌≡◌, ℤ, pos, ◌+ℤ◌, ◌-ℤ◌, ◌*ℤ◌, ◌≤ℤ◌, ◌<ℤ◌, ◌⊎◌, ◌↔◌, Bool, true, false, List, [], ◌∷◌, refl, sym, ◌∙◌, inl, inr, arith}
use Rattle.std.proofs.lemmas.Int.{ints}
use Rattle.int_algebra.proofs.Ring.{var, num, ◌⊕◌, ◌⊖◌, ◌⊗◌, sq, fact, ring, ring_by}
use Rattle.int_algebra.proofs.Order.{product-pos, product-nonneg, square-nonneg, sum-nonneg, lt-le, le_by, le_gap, same_by_scale, Below, scale_Below, unscale_Below, le-Below}
use Rattle.geo_seg.specs.declared.points.Point.{Point}
use Rattle.geo_seg.specs.declared.points.Seg.{Seg}
use Rattle.geo_seg.specs.Nearer.{square, squared_gap, squared_limit}
use Rattle.geo_seg.specs.Points.{RationalPoint, IsOn, rational_point_of}
use Rattle.geo_poly.specs.OutlineEdges.{IsApart, IsReached}
use Rattle.geo_seg.proofs.RationalPoints.{Below_along}
use Rattle.geo_seg.specs.Inside.{outline, SomeEdge, EachEdge}
use Rattle.geo_seg.proofs.Parity.{is_odd}
use Rattle.geo_seg.proofs.BoxLemmas.{start_on}
use Rattle.geo_poly.proofs.Insides.{Odd, IsIn, IsPolySegApart, IsPolySegReached}
use Rattle.geo_poly.proofs.Between.{IsBetween}
use Rattle.geo_poly.proofs.Ways.{Crossed, same_or_crossed, SomeEdge-weaker}

-- ---- a segment holds what lies between two of its rational points
on_between_at : (m i px pw n j qx qw k l rx rw a b : ℤ) → pos 0 <ℤ pw → pos 0 <ℤ qw → m *ℤ px ≡ pw *ℤ ((m -ℤ i) *ℤ a +ℤ i *ℤ b) → n *ℤ qx ≡ qw *ℤ ((n -ℤ j) *ℤ a +ℤ j *ℤ b)
    → k *ℤ (pw *ℤ qw *ℤ rx) ≡ rw *ℤ ((k -ℤ l) *ℤ (px *ℤ qw) +ℤ l *ℤ (qx *ℤ pw))
    → k *ℤ m *ℤ n *ℤ rx ≡ rw *ℤ ((k *ℤ m *ℤ n -ℤ ((k -ℤ l) *ℤ (i *ℤ n) +ℤ l *ℤ (j *ℤ m))) *ℤ a +ℤ ((k -ℤ l) *ℤ (i *ℤ n) +ℤ l *ℤ (j *ℤ m)) *ℤ b)
on_between_at m i px pw n j qx qw k l rx rw a b hp hq e f g =
    let M = var 0 in let I = var 1 in let Px = var 2 in let Pw = var 3 in let N = var 4 in let J = var 5 in let Qx = var 6 in let Qw = var 7 in
    let K = var 8 in let L = var 9 in let Rx = var 10 in let Rw = var 11 in let A = var 12 in let B = var 13 in
    let part = (K ⊖ L) ⊗ (I ⊗ N) ⊕ L ⊗ (J ⊗ M) in
    same_by_scale (pw *ℤ qw) (k *ℤ m *ℤ n *ℤ rx) (rw *ℤ ((k *ℤ m *ℤ n -ℤ ((k -ℤ l) *ℤ (i *ℤ n) +ℤ l *ℤ (j *ℤ m))) *ℤ a +ℤ ((k -ℤ l) *ℤ (i *ℤ n) +ℤ l *ℤ (j *ℤ m)) *ℤ b)) (product-pos pw qw hp hq)
    (ring_by (m ∷ i ∷ px ∷ pw ∷ n ∷ j ∷ qx ∷ qw ∷ k ∷ l ∷ rx ∷ rw ∷ a ∷ b ∷ [])
    (fact (M ⊗ N) (K ⊗ (Pw ⊗ Qw ⊗ Rx)) (Rw ⊗ ((K ⊖ L) ⊗ (Px ⊗ Qw) ⊕ L ⊗ (Qx ⊗ Pw)))
    ∷ fact (Rw ⊗ (K ⊖ L) ⊗ N ⊗ Qw) (M ⊗ Px) (Pw ⊗ ((M ⊖ I) ⊗ A ⊕ I ⊗ B))
    ∷ fact (Rw ⊗ L ⊗ M ⊗ Pw) (N ⊗ Qx) (Qw ⊗ ((N ⊖ J) ⊗ A ⊕ J ⊗ B)) ∷ []) (g, (e, (f, tt)))
    (Pw ⊗ Qw ⊗ (K ⊗ M ⊗ N ⊗ Rx)) (Pw ⊗ Qw ⊗ (Rw ⊗ ((K ⊗ M ⊗ N ⊖ part) ⊗ A ⊕ part ⊗ B))) tt)

part_le : (m i n j k l : ℤ) → pos 0 ≤ℤ m → i ≤ℤ m → pos 0 ≤ℤ n → j ≤ℤ n → pos 0 ≤ℤ l → l ≤ℤ k → ((k -ℤ l) *ℤ (i *ℤ n) +ℤ l *ℤ (j *ℤ m)) ≤ℤ (k *ℤ m *ℤ n)
part_le m i n j k l m0 im n0 jn l0 lk =
    let M = var 0 in let I = var 1 in let N = var 2 in let J = var 3 in let K = var 4 in let L = var 5 in
    le_by ((k -ℤ l) *ℤ (i *ℤ n) +ℤ l *ℤ (j *ℤ m)) (k *ℤ m *ℤ n) ((k -ℤ l) *ℤ ((m -ℤ i) *ℤ n) +ℤ l *ℤ ((n -ℤ j) *ℤ m))
    (ring (m ∷ i ∷ n ∷ j ∷ k ∷ l ∷ []) (K ⊗ M ⊗ N ⊖ ((K ⊖ L) ⊗ (I ⊗ N) ⊕ L ⊗ (J ⊗ M))) ((K ⊖ L) ⊗ ((M ⊖ I) ⊗ N) ⊕ L ⊗ ((N ⊖ J) ⊗ M)) tt)
    (sum-nonneg ((k -ℤ l) *ℤ ((m -ℤ i) *ℤ n)) (l *ℤ ((n -ℤ j) *ℤ m))
    (product-nonneg (k -ℤ l) ((m -ℤ i) *ℤ n) (le_gap l k lk) (product-nonneg (m -ℤ i) n (le_gap i m im) n0))
    (product-nonneg l ((n -ℤ j) *ℤ m) l0 (product-nonneg (n -ℤ j) m (le_gap j n jn) m0)))

pub IsOn-between : (s : Seg) (p q r : RationalPoint) → IsOn s p → IsOn s q → IsBetween p q r → IsOn s r
IsOn-between s p q r o u b =
    let m = o.whole in let i = o.part in let n = u.whole in let j = u.part in let k = b.whole in let l = b.part in
    let m0 = lt-le (pos 0) m o.positive in let n0 = lt-le (pos 0) n u.positive in
    record {
      part = (k -ℤ l) *ℤ (i *ℤ n) +ℤ l *ℤ (j *ℤ m);
      whole = k *ℤ m *ℤ n;
      starts = sum-nonneg ((k -ℤ l) *ℤ (i *ℤ n)) (l *ℤ (j *ℤ m)) (product-nonneg (k -ℤ l) (i *ℤ n) (le_gap l k b.ends) (product-nonneg i n o.starts n0)) (product-nonneg l (j *ℤ m) b.starts (product-nonneg j m u.starts m0));
      ends = part_le m i n j k l m0 o.ends n0 u.ends b.starts b.ends;
      positive = product-pos (k *ℤ m) n (product-pos k m b.positive o.positive) u.positive;
      along_x = on_between_at m i p.x p.w n j q.x q.w k l r.x r.w s.a.x s.b.x p.positive q.positive o.along_x u.along_x b.along_x;
      along_y = on_between_at m i p.y p.w n j q.y q.w k l r.y r.w s.a.y s.b.y p.positive q.positive o.along_y u.along_y b.along_y;
    }

-- ---- nearness: `Near true d` is nearer than d, `Near false d` within d
abbrev pub Near : Bool → ℤ → RationalPoint → RationalPoint → Type 0
Near t d p q = Below t (squared_gap p q) (squared_limit d p q)

gap_sym : (p q : RationalPoint) → squared_gap p q ≡ squared_gap q p
gap_sym p q =
    let Px = var 0 in let Py = var 1 in let Pw = var 2 in let Qx = var 3 in let Qy = var 4 in let Qw = var 5 in
    ring (p.x ∷ p.y ∷ p.w ∷ q.x ∷ q.y ∷ q.w ∷ []) (sq (Px ⊗ Qw ⊖ Qx ⊗ Pw) ⊕ sq (Py ⊗ Qw ⊖ Qy ⊗ Pw)) (sq (Qx ⊗ Pw ⊖ Px ⊗ Qw) ⊕ sq (Qy ⊗ Pw ⊖ Py ⊗ Qw)) tt

limit_sym : (d : ℤ) (p q : RationalPoint) → squared_limit d p q ≡ squared_limit d q p
limit_sym d p q = ring (d ∷ p.w ∷ q.w ∷ []) (sq (var 0 ⊗ var 1 ⊗ var 2)) (sq (var 0 ⊗ var 2 ⊗ var 1)) tt

pub Near-sym : (t : Bool) (d : ℤ) (p q : RationalPoint) → Near t d p q → Near t d q p
Near-sym t d p q h = Below_along t (squared_gap p q) (squared_gap q p) (squared_limit d p q) (squared_limit d q p) (gap_sym p q) (limit_sym d p q) h

-- a rational point is near itself
abbrev pub Touches : Bool → ℤ → Type 0
Touches t d = (p : RationalPoint) → Near t d p p

gap_self : (p : RationalPoint) → pos 0 ≡ squared_gap p p
gap_self p = ring (p.x ∷ p.y ∷ p.w ∷ []) (num (pos 0)) (sq (var 0 ⊗ var 2 ⊖ var 0 ⊗ var 2) ⊕ sq (var 1 ⊗ var 2 ⊖ var 1 ⊗ var 2)) tt

pub touches_within : (d : ℤ) → Touches false d
touches_within d p = Below_along false (pos 0) (squared_gap p p) (squared_limit d p p) (squared_limit d p p) (gap_self p) refl (square-nonneg (d *ℤ p.w *ℤ p.w))

pub touches_nearer : (d : ℤ) → pos 0 <ℤ d → Touches true d
touches_nearer d h p =
    let k = product-pos (d *ℤ p.w) p.w (product-pos d p.w h p.positive) p.positive in
    Below_along true (pos 0) (squared_gap p p) (squared_limit d p p) (squared_limit d p p) (gap_self p) refl (product-pos (d *ℤ p.w *ℤ p.w) (d *ℤ p.w *ℤ p.w) k k)

-- what lies between is no farther from the end
short_at : (k l pw px qw qx rw rx : ℤ) → k *ℤ (pw *ℤ qw *ℤ rx) ≡ rw *ℤ ((k -ℤ l) *ℤ (px *ℤ qw) +ℤ l *ℤ (qx *ℤ pw)) → k *ℤ pw *ℤ (rx *ℤ qw -ℤ qx *ℤ rw) ≡ rw *ℤ (k -ℤ l) *ℤ (px *ℤ qw -ℤ qx *ℤ pw)
short_at k l pw px qw qx rw rx h =
    let K = var 0 in let L = var 1 in let Pw = var 2 in let Px = var 3 in let Qw = var 4 in let Qx = var 5 in let Rw = var 6 in let Rx = var 7 in
    ring_by (k ∷ l ∷ pw ∷ px ∷ qw ∷ qx ∷ rw ∷ rx ∷ []) (fact (num (pos 1)) (K ⊗ (Pw ⊗ Qw ⊗ Rx)) (Rw ⊗ ((K ⊖ L) ⊗ (Px ⊗ Qw) ⊕ L ⊗ (Qx ⊗ Pw))) ∷ []) (h, tt)
    (K ⊗ Pw ⊗ (Rx ⊗ Qw ⊖ Qx ⊗ Rw)) (Rw ⊗ (K ⊖ L) ⊗ (Px ⊗ Qw ⊖ Qx ⊗ Pw)) tt

squares : (k a b l a' b' : ℤ) → k *ℤ a ≡ l *ℤ a' → k *ℤ b ≡ l *ℤ b' → square l *ℤ (square a' +ℤ square b') ≡ square k *ℤ (square a +ℤ square b)
squares k a b l a' b' e f =
    let k' = var 0 in let a1 = var 1 in let b1 = var 2 in let l' = var 3 in let a2 = var 4 in let b2 = var 5 in
    sym (ring_by (k ∷ a ∷ b ∷ l ∷ a' ∷ b' ∷ []) (fact (k' ⊗ a1 ⊕ l' ⊗ a2) (k' ⊗ a1) (l' ⊗ a2) ∷ fact (k' ⊗ b1 ⊕ l' ⊗ b2) (k' ⊗ b1) (l' ⊗ b2) ∷ []) (e, (f, tt))
    (sq k' ⊗ (sq a1 ⊕ sq b1)) (sq l' ⊗ (sq a2 ⊕ sq b2)) tt)

limits_at : (d k pw qw rw : ℤ) → square (rw *ℤ k) *ℤ square (d *ℤ pw *ℤ qw) ≡ square (k *ℤ pw) *ℤ square (d *ℤ rw *ℤ qw)
limits_at d k pw qw rw =
    let D = var 0 in let K = var 1 in let Pw = var 2 in let Qw = var 3 in let Rw = var 4 in
    ring (d ∷ k ∷ pw ∷ qw ∷ rw ∷ []) (sq (Rw ⊗ K) ⊗ sq (D ⊗ Pw ⊗ Qw)) (sq (K ⊗ Pw) ⊗ sq (D ⊗ Rw ⊗ Qw)) tt

-- c g ≤ c' g
wider : (rw k l g : ℤ) → pos 0 ≤ℤ l → l ≤ℤ k → pos 0 ≤ℤ g → (square (rw *ℤ (k -ℤ l)) *ℤ g) ≤ℤ (square (rw *ℤ k) *ℤ g)
wider rw k l g hl hk hg =
    le_by (square (rw *ℤ (k -ℤ l)) *ℤ g) (square (rw *ℤ k) *ℤ g) (square rw *ℤ (l *ℤ (k -ℤ l +ℤ k)) *ℤ g)
    (ring (rw ∷ k ∷ l ∷ g ∷ []) (sq (var 0 ⊗ var 1) ⊗ var 3 ⊖ sq (var 0 ⊗ (var 1 ⊖ var 2)) ⊗ var 3) (sq (var 0) ⊗ (var 2 ⊗ (var 1 ⊖ var 2 ⊕ var 1)) ⊗ var 3) tt)
    (product-nonneg (square rw *ℤ (l *ℤ (k -ℤ l +ℤ k))) g (product-nonneg (square rw) (l *ℤ (k -ℤ l +ℤ k)) (square-nonneg rw) (product-nonneg l (k -ℤ l +ℤ k) hl (twice k l hl hk))) hg)
  where
    twice : (k l : ℤ) → pos 0 ≤ℤ l → l ≤ℤ k → pos 0 ≤ℤ (k -ℤ l +ℤ k)
    twice k l h g = omega (arith, ints)

pub Near-between : (t : Bool) (d : ℤ) (p q r : RationalPoint) → IsBetween p q r → Near t d p q → Near t d r q
Near-between t d p q r b h =
    let k = b.whole in let l = b.part in
    let g = squared_gap p q in let L = squared_limit d p q in
    let g0 = sum-nonneg (square (p.x *ℤ q.w -ℤ q.x *ℤ p.w)) (square (p.y *ℤ q.w -ℤ q.y *ℤ p.w)) (square-nonneg (p.x *ℤ q.w -ℤ q.x *ℤ p.w)) (square-nonneg (p.y *ℤ q.w -ℤ q.y *ℤ p.w)) in
    let rk = product-pos r.w k r.positive b.positive in
    let kp = product-pos k p.w b.positive p.positive in
    unscale_Below t (square (k *ℤ p.w)) (squared_gap r q) (squared_limit d r q) (product-pos (k *ℤ p.w) (k *ℤ p.w) kp kp)
    (Below_along t (square (r.w *ℤ (k -ℤ l)) *ℤ g) (square (k *ℤ p.w) *ℤ squared_gap r q) (square (r.w *ℤ k) *ℤ L) (square (k *ℤ p.w) *ℤ squared_limit d r q)
    (squares (k *ℤ p.w) (r.x *ℤ q.w -ℤ q.x *ℤ r.w) (r.y *ℤ q.w -ℤ q.y *ℤ r.w) (r.w *ℤ (k -ℤ l)) (p.x *ℤ q.w -ℤ q.x *ℤ p.w) (p.y *ℤ q.w -ℤ q.y *ℤ p.w)
    (short_at k l p.w p.x q.w q.x r.w r.x b.along_x) (short_at k l p.w p.y q.w q.y r.w r.y b.along_y))
    (limits_at d k p.w q.w r.w)
    (le-Below t (square (r.w *ℤ (k -ℤ l)) *ℤ g) (square (r.w *ℤ k) *ℤ g) (square (r.w *ℤ k) *ℤ L) (wider r.w k l g b.starts b.ends g0)
    (scale_Below t (square (r.w *ℤ k)) g L (product-pos (r.w *ℤ k) (r.w *ℤ k) rk rk) h)))

-- ---- two segments, some of whose rational points are near
pub record Pair (t : Bool) (d : ℤ) (a b : Seg) : Type 0 where
  pub from : RationalPoint
  pub to : RationalPoint
  pub of_first : IsOn a from
  pub of_second : IsOn b to
  pub near : Near t d from to

pub Pair-sym : (t : Bool) (d : ℤ) (a b : Seg) → Pair t d a b → Pair t d b a
Pair-sym t d a b p = record { from = p.to; to = p.from; of_first = p.of_second; of_second = p.of_first; near = Near-sym t d p.from p.to p.near }

-- an edge that meets the way between two rational points of s meets s
pub met_pair : (t : Bool) (d : ℤ) → Touches t d → (e s : Seg) (p q : RationalPoint) → IsOn s p → IsOn s q → Crossed e p q → Pair t d e s
met_pair t d z e s p q o u c = record { from = c.rational_point; to = c.rational_point; of_first = c.on; of_second = IsOn-between s p q c.rational_point o u c.between; near = z c.rational_point }

-- an edge that meets the way from p to q is as near to q as p is
pub near_pair : (t : Bool) (d : ℤ) (e s : Seg) (p q : RationalPoint) → IsOn s q → Near t d p q → Crossed e p q → Pair t d e s
near_pair t d e s p q u h c = record { from = c.rational_point; to = q; of_first = c.on; of_second = u; near = Near-between t d p q c.rational_point c.between h }

seg_inside : (t : Bool) (d : ℤ) → Touches t d → (cs : List Point) (s : Seg) (q : RationalPoint) → IsOn s q → Odd cs q → (is_odd (rational_point_of s.a) (outline cs) ≡ is_odd q (outline cs)) ⊎ SomeEdge (λ e. Crossed e (rational_point_of s.a) q) (outline cs) → SomeEdge (λ e. Pair t d e s) (outline cs) ⊎ Odd cs (rational_point_of s.a)
seg_inside t d z cs s q u k (inl e) = inr (e ∙ k)
seg_inside t d z cs s q u k (inr c) = inl (SomeEdge-weaker (λ e. met_pair t d z e s (rational_point_of s.a) q (start_on s) u) (outline cs) c)

seg_from_inside : (t : Bool) (d : ℤ) → Touches t d → (cs : List Point) (s : Seg) (p q : RationalPoint) → Odd cs p → IsOn s q → Near t d p q → (is_odd p (outline cs) ≡ is_odd q (outline cs)) ⊎ SomeEdge (λ e. Crossed e p q) (outline cs) → SomeEdge (λ e. Pair t d e s) (outline cs) ⊎ Odd cs (rational_point_of s.a)
seg_from_inside t d z cs s p q k u h (inl e) = seg_inside t d z cs s q u (sym e ∙ k) (same_or_crossed cs (rational_point_of s.a) q)
seg_from_inside t d z cs s p q k u h (inr c) = inl (SomeEdge-weaker (λ e. near_pair t d e s p q u h) (outline cs) c)

pub seg_reach : (t : Bool) (d : ℤ) → Touches t d → (cs : List Point) (s : Seg) (p q : RationalPoint) → IsIn cs p → IsOn s q → Near t d p q → SomeEdge (λ e. Pair t d e s) (outline cs) ⊎ Odd cs (rational_point_of s.a)
seg_reach t d z cs s p q (inl o) u h = inl (SomeEdge-weaker (λ e k. record { from = p; to = q; of_first = k; of_second = u; near = h }) (outline cs) o)
seg_reach t d z cs s p q (inr k) u h = seg_from_inside t d z cs s p q k u h (same_or_crossed cs p q)

-- ---- the two theorems
pair_reached : (d : ℤ) (a b : Seg) → Pair false d a b → IsReached a b d
pair_reached d a b p = record { from = p.from; to = p.to; of_first = p.of_first; of_second = p.of_second; within = p.near }

reached_pair : (d : ℤ) (a b : Seg) → IsReached a b d → Pair false d a b
reached_pair d a b p = record { from = p.from; to = p.to; of_first = p.of_first; of_second = p.of_second; near = p.within }

pub not_pair : (d : ℤ) (a b : Seg) → IsApart a b d → Pair true d a b → ⊥
not_pair d a b h p = h.apart p.from p.to p.of_first p.of_second p.near

-- a rational point of an edge, with what it takes
pub record OnEdge (es : List Seg) (P : RationalPoint → Type 0) : Type 0 where
  pub rational_point : RationalPoint
  pub on : SomeEdge (λ e. IsOn e rational_point) es
  pub holds : P rational_point

some_rational_point : (t : Bool) (d : ℤ) (s : Seg) (es : List Seg) → SomeEdge (λ e. Pair t d e s) es → OnEdge es (λ p. (q : RationalPoint) × IsOn s q × Near t d p q)
some_rational_point t d s [] h = absurd h
some_rational_point t d s (e ∷ es) (inl p) = record { rational_point = p.from; on = inl p.of_first; holds = (p.to, p.of_second, p.near) }
some_rational_point t d s (e ∷ es) (inr h) = let r = some_rational_point t d s es h in record { rational_point = r.rational_point; on = inr r.on; holds = r.holds }

seg_reached_by : (d : ℤ) (cs : List Point) (s : Seg) → SomeEdge (λ e. IsReached e s d) (outline cs) ⊎ Odd cs (rational_point_of s.a) → IsPolySegReached cs s d
seg_reached_by d cs s (inl h) =
    let r = some_rational_point false d s (outline cs) (SomeEdge-weaker (λ e. reached_pair d e s) (outline cs) h) in
    record { from = r.rational_point; to = r.holds.0; of_first = inl r.on; of_second = r.holds.1; within = r.holds.2 }
seg_reached_by d cs s (inr k) = record { from = rational_point_of s.a; to = rational_point_of s.a; of_first = inr k; of_second = start_on s; within = touches_within d (rational_point_of s.a) }

either_reached : (d : ℤ) (cs : List Point) (s : Seg) → SomeEdge (λ e. Pair false d e s) (outline cs) ⊎ Odd cs (rational_point_of s.a) → SomeEdge (λ e. IsReached e s d) (outline cs) ⊎ Odd cs (rational_point_of s.a)
either_reached d cs s (inl h) = inl (SomeEdge-weaker (λ e. pair_reached d e s) (outline cs) h)
either_reached d cs s (inr k) = inr k

-- within d: an edge is, or the segment begins inside
pub seg_reached_where : (d : ℤ) (cs : List Point) (s : Seg) → IsPolySegReached cs s d ↔ (SomeEdge (λ e. IsReached e s d) (outline cs) ⊎ Odd cs (rational_point_of s.a))
seg_reached_where d cs s = (λ h. either_reached d cs s (seg_reach false d (touches_within d) cs s h.from h.to h.of_first h.of_second h.within), seg_reached_by d cs s)

pub none_of : {P Q : Seg → Type 0} → ((e : Seg) → P e → Q e → ⊥) → (es : List Seg) → EachEdge P es → SomeEdge Q es → ⊥
none_of f [] h x = x
none_of f (e ∷ es) h (inl x) = f e h.0 x
none_of f (e ∷ es) h (inr x) = none_of f es h.1 x

no_seg_reach : (d : ℤ) (cs : List Point) (s : Seg) → EachEdge (λ e. IsApart e s d) (outline cs) → ¬ (Odd cs (rational_point_of s.a)) → SomeEdge (λ e. Pair true d e s) (outline cs) ⊎ Odd cs (rational_point_of s.a) → ⊥
no_seg_reach d cs s h n (inl x) = none_of (λ e. not_pair d e s) (outline cs) h x
no_seg_reach d cs s h n (inr k) = n k

pub each_by : {P : Seg → Type 0} (es fs : List Seg) → ((e : Seg) → ((Q : Seg → Type 0) → Q e → SomeEdge Q es) → P e) → ((Q : Seg → Type 0) → SomeEdge Q fs → SomeEdge Q es) → EachEdge P fs
each_by es [] f g = tt
each_by es (e ∷ fs) f g = (f e (λ Q x. g Q (inl x)), each_by es fs f (λ Q x. g Q (inr x)))

-- apart at d: each edge is, and the segment does not begin inside
pub seg_apart_where : (d : ℤ) → pos 0 <ℤ d → (cs : List Point) (s : Seg) → IsPolySegApart cs s d ↔ (EachEdge (λ e. IsApart e s d) (outline cs) × (¬ (Odd cs (rational_point_of s.a))))
seg_apart_where d hd cs s = (
  λ h. (
    each_by (outline cs) (outline cs) (λ e member. record { apart = λ p q o u n. h.apart p q (inl (member (λ x. IsOn x p) o)) u n }) (λ Q x. x),
    λ k. h.apart (rational_point_of s.a) (rational_point_of s.a) (inr k) (start_on s) (touches_nearer d hd (rational_point_of s.a)),
  ),
  λ h. record { apart = λ p q o u n. no_seg_reach d cs s h.0 h.1 (seg_reach true d (touches_nearer d hd) cs s p q o u n) },
)
