-- What the functions answer, from what they test.
use Rattle.std.proofs.Common.{inl, inr, ◌⊎◌, ◌≡◌, ◌↔◌, ℤ, pos, ◌+ℤ◌, ◌-ℤ◌, ◌*ℤ◌, ◌≤ℤ◌, ◌<ℤ◌, Bool, true, false, [], ◌∷◌, sym, subst, arith}
use Rattle.std.proofs.lemmas.Int.{ints}
use Rattle.int_algebra.proofs.Ring.{var, num, ◌⊕◌, ◌⊖◌, ◌⊗◌, sq, fact, ring, ring_by}
use Rattle.int_algebra.proofs.Order.{lt-le, product-pos, square-nonneg, square_zero, sum_zero, same_by_scale}
use Rattle.geo_seg.specs.declared.points.Seg.{Seg}
use Rattle.geo_seg.specs.Points.{RationalPoint, IsAt, IsOn}
use Rattle.geo_seg.specs.Nearer.{square, squared_gap, squared_limit, AreApart, AreWithin, DoMeet}
use Rattle.geo_seg.specs.Gap.{IsCrossing, IsEndReached, AreEndsApart}
use Rattle.geo_seg.proofs.PointReach.{PointReach, rational_point_at, rational_point_at_IsOn, within_of_reach, reach_of_within, apart_of_no_reach, no_reach_of_apart}
use Rattle.geo_seg.proofs.SegReach.{SegReach, rational_points_to_reach, reach_to_rational_points, Near, crossing, start_a, end_a, start_b, end_b, near_by_reach, crossing_reach, start_a_reach, end_a_reach, start_b_reach, end_b_reach}

-- ---- within
reached_by : (d : ℤ) (a b : Seg) → SegReach false d a b → AreWithin (IsOn a) (IsOn b) d
reached_by d a b c = record {
  from = rational_point_at a c.whole c.part_a c.framed.positive;
  to = rational_point_at b c.whole c.part_b c.framed.positive;
  of_first = rational_point_at_IsOn a c.whole c.part_a c.framed.positive c.framed.starts_a c.framed.ends_a;
  of_second = rational_point_at_IsOn b c.whole c.part_b c.framed.positive c.framed.starts_b c.framed.ends_b;
  within = reach_to_rational_points false d a b c;
}

pub reached_by_crossing : (d : ℤ) (a b : Seg) → IsCrossing a b → AreWithin (IsOn a) (IsOn b) d
reached_by_crossing d a b h = reached_by d a b (crossing_reach false d a b (λ t k. square-nonneg (d *ℤ t)) h)

pub reached_by_start_a : (d : ℤ) (a b : Seg) → AreWithin (IsAt a.a) (IsOn b) d → AreWithin (IsOn a) (IsOn b) d
reached_by_start_a d a b h = reached_by d a b (start_a_reach false d a b (reach_of_within d a.a b h))

pub reached_by_end_a : (d : ℤ) (a b : Seg) → AreWithin (IsAt a.b) (IsOn b) d → AreWithin (IsOn a) (IsOn b) d
reached_by_end_a d a b h = reached_by d a b (end_a_reach false d a b (reach_of_within d a.b b h))

pub reached_by_start_b : (d : ℤ) (a b : Seg) → AreWithin (IsAt b.a) (IsOn a) d → AreWithin (IsOn a) (IsOn b) d
reached_by_start_b d a b h = reached_by d a b (start_b_reach false d a b (reach_of_within d b.a a h))

pub reached_by_end_b : (d : ℤ) (a b : Seg) → AreWithin (IsAt b.b) (IsOn a) d → AreWithin (IsOn a) (IsOn b) d
reached_by_end_b d a b h = reached_by d a b (end_b_reach false d a b (reach_of_within d b.b a h))

not_near : (r : Bool) (d : ℤ) (a b : Seg) → (IsCrossing a b → ⊥) → (PointReach r d a.a b → ⊥) → (PointReach r d a.b b → ⊥) → (PointReach r d b.a a → ⊥) → (PointReach r d b.b a → ⊥) → Near r d a b → ⊥
not_near r d a b n0 n1 n2 n3 n4 (crossing h) = n0 h
not_near r d a b n0 n1 n2 n3 n4 (start_a h) = n1 h
not_near r d a b n0 n1 n2 n3 n4 (end_a h) = n2 h
not_near r d a b n0 n1 n2 n3 n4 (start_b h) = n3 h
not_near r d a b n0 n1 n2 n3 n4 (end_b h) = n4 h

-- ---- apart
pub apart_by : (d : ℤ) (a b : Seg) → pos 0 ≤ℤ d → ¬ (IsCrossing a b) → AreApart (IsAt a.a) (IsOn b) d → AreApart (IsAt a.b) (IsOn b) d → AreApart (IsAt b.a) (IsOn a) d → AreApart (IsAt b.b) (IsOn a) d → AreApart (IsOn a) (IsOn b) d
apart_by d a b hd n0 h1 h2 h3 h4 = record {
  apart = λ p q o k n.
      not_near true d a b n0 (no_reach_of_apart d a.a b h1) (no_reach_of_apart d a.b b h2) (no_reach_of_apart d b.a a h3) (no_reach_of_apart d b.b a h4)
      (near_by_reach true d a b hd (rational_points_to_reach true d a b p q o k n));
}

not_negative_square : (x y z : ℤ) → (square x +ℤ square y) <ℤ (pos 0 *ℤ z) → ⊥
not_negative_square x y z h = bad (square x) (square y) (pos 0 *ℤ z) (square-nonneg x) (square-nonneg y) (omega (arith, ints)) h
  where
    bad : (s t u : ℤ) → pos 0 ≤ℤ s → pos 0 ≤ℤ t → u ≡ pos 0 → (s +ℤ t) <ℤ u → ⊥
    bad s t u h k e l = omega (arith, ints)

-- nothing is nearer than 0
pub apart_zero : (a b : Seg) → AreApart (IsOn a) (IsOn b) (pos 0)
apart_zero a b = record { apart = λ p q o k n. not_negative_square (p.x *ℤ q.w -ℤ q.x *ℤ p.w) (p.y *ℤ q.w -ℤ q.y *ℤ p.w) (p.w *ℤ q.w *ℤ (pos 0 *ℤ p.w *ℤ q.w)) (subst (λ (z : ℤ). squared_gap p q <ℤ z) (ring (p.w ∷ q.w ∷ []) (sq (num (pos 0) ⊗ var 0 ⊗ var 1)) (num (pos 0) ⊗ (var 0 ⊗ var 1 ⊗ (num (pos 0) ⊗ var 0 ⊗ var 1))) tt) n) }

not_apart_by : (d : ℤ) (a b : Seg) → SegReach true d a b → AreApart (IsOn a) (IsOn b) d → ⊥
not_apart_by d a b c h = h.apart (rational_point_at a c.whole c.part_a c.framed.positive) (rational_point_at b c.whole c.part_b c.framed.positive)
    (rational_point_at_IsOn a c.whole c.part_a c.framed.positive c.framed.starts_a c.framed.ends_a)
    (rational_point_at_IsOn b c.whole c.part_b c.framed.positive c.framed.starts_b c.framed.ends_b)
    (reach_to_rational_points true d a b c)

pub not_apart_by_crossing : (d : ℤ) (a b : Seg) → pos 0 <ℤ d → IsCrossing a b → ¬ (AreApart (IsOn a) (IsOn b) d)
not_apart_by_crossing d a b hd h = not_apart_by d a b (crossing_reach true d a b (λ t k. let m = product-pos d t hd k in product-pos (d *ℤ t) (d *ℤ t) m m) h)

pub apart_start_a : (d : ℤ) (a b : Seg) → AreApart (IsOn a) (IsOn b) d → AreApart (IsAt a.a) (IsOn b) d
apart_start_a d a b h = apart_of_no_reach d a.a b (λ c. not_apart_by d a b (start_a_reach true d a b c) h)

pub apart_end_a : (d : ℤ) (a b : Seg) → AreApart (IsOn a) (IsOn b) d → AreApart (IsAt a.b) (IsOn b) d
apart_end_a d a b h = apart_of_no_reach d a.b b (λ c. not_apart_by d a b (end_a_reach true d a b c) h)

pub apart_start_b : (d : ℤ) (a b : Seg) → AreApart (IsOn a) (IsOn b) d → AreApart (IsAt b.a) (IsOn a) d
apart_start_b d a b h = apart_of_no_reach d b.a a (λ c. not_apart_by d a b (start_b_reach true d a b c) h)

pub apart_end_b : (d : ℤ) (a b : Seg) → AreApart (IsOn a) (IsOn b) d → AreApart (IsAt b.b) (IsOn a) d
apart_end_b d a b h = apart_of_no_reach d b.b a (λ c. not_apart_by d a b (end_b_reach true d a b c) h)

-- ---- a shared point
no_limit : (u v : ℤ) → square (pos 0 *ℤ u *ℤ v) ≡ pos 0
no_limit u v = ring (u ∷ v ∷ []) (sq (num (pos 0) ⊗ var 0 ⊗ var 1)) (num (pos 0)) tt

carried : (px pw qx qw n x : ℤ) → pos 0 <ℤ qw → px *ℤ qw -ℤ qx *ℤ pw ≡ pos 0 → n *ℤ qx ≡ qw *ℤ x → n *ℤ px ≡ pw *ℤ x
carried px pw qx qw n x h e f =
    let px' = var 0 in let pw' = var 1 in let qx' = var 2 in let qw' = var 3 in let n' = var 4 in let x' = var 5 in
    same_by_scale qw (n *ℤ px) (pw *ℤ x) h
    (ring_by (px ∷ pw ∷ qx ∷ qw ∷ n ∷ x ∷ []) (fact n' (px' ⊗ qw' ⊖ qx' ⊗ pw') (num (pos 0)) ∷ fact pw' (n' ⊗ qx') (qw' ⊗ x') ∷ []) (e, (f, tt)) (qw' ⊗ (n' ⊗ px')) (qw' ⊗ (pw' ⊗ x')) tt)

pub met_of_reached : (a b : Seg) → AreWithin (IsOn a) (IsOn b) (pos 0) → DoMeet (IsOn a) (IsOn b)
met_of_reached a b h =
    let p = h.from in let q = h.to in let o = h.of_second in
    let gx = p.x *ℤ q.w -ℤ q.x *ℤ p.w in let gy = p.y *ℤ q.w -ℤ q.y *ℤ p.w in
    let z : squared_gap p q ≤ℤ pos 0 = subst (λ (v : ℤ). squared_gap p q ≤ℤ v) (no_limit p.w q.w) h.within in
    let zs = sum_zero (square gx) (square gy) (square-nonneg gx) (square-nonneg gy) z in
    record {
      rational_point = p;
      of_first = h.of_first;
      of_second = record {
        part = o.part;
        whole = o.whole;
        starts = o.starts;
        ends = o.ends;
        positive = o.positive;
        along_x = carried p.x p.w q.x q.w o.whole ((o.whole -ℤ o.part) *ℤ b.a.x +ℤ o.part *ℤ b.b.x) q.positive (square_zero gx zs.0) o.along_x;
        along_y = carried p.y p.w q.y q.w o.whole ((o.whole -ℤ o.part) *ℤ b.a.y +ℤ o.part *ℤ b.b.y) q.positive (square_zero gy zs.1) o.along_y;
      };
    }

no_gap : (p : RationalPoint) → squared_gap p p ≡ pos 0
no_gap p = ring (p.x ∷ p.y ∷ p.w ∷ []) (sq (var 0 ⊗ var 2 ⊖ var 0 ⊗ var 2) ⊕ sq (var 1 ⊗ var 2 ⊖ var 1 ⊗ var 2)) (num (pos 0)) tt

pub reached_of_met : (a b : Seg) → DoMeet (IsOn a) (IsOn b) → AreWithin (IsOn a) (IsOn b) (pos 0)
reached_of_met a b h = record {
  from = h.rational_point;
  to = h.rational_point;
  of_first = h.of_first;
  of_second = h.of_second;
  within = subst (λ (v : ℤ). v ≤ℤ squared_limit (pos 0) h.rational_point h.rational_point) (sym (no_gap h.rational_point)) (square-nonneg (pos 0 *ℤ h.rational_point.w *ℤ h.rational_point.w));
}

-- ---- the two theorems, in the form of the code
by_reach : (d : ℤ) (a b : Seg) → Near false d a b → IsCrossing a b ⊎ (IsEndReached a b d ⊎ IsEndReached b a d)
by_reach d a b (crossing h) = inl h
by_reach d a b (start_a h) = inr (inl (inl (within_of_reach d a.a b h)))
by_reach d a b (end_a h) = inr (inl (inr (within_of_reach d a.b b h)))
by_reach d a b (start_b h) = inr (inr (inl (within_of_reach d b.a a h)))
by_reach d a b (end_b h) = inr (inr (inr (within_of_reach d b.b a h)))

reached_of : (d : ℤ) (a b : Seg) → IsCrossing a b ⊎ (IsEndReached a b d ⊎ IsEndReached b a d) → AreWithin (IsOn a) (IsOn b) d
reached_of d a b (inl h) = reached_by_crossing d a b h
reached_of d a b (inr (inl (inl h))) = reached_by_start_a d a b h
reached_of d a b (inr (inl (inr h))) = reached_by_end_a d a b h
reached_of d a b (inr (inr (inl h))) = reached_by_start_b d a b h
reached_of d a b (inr (inr (inr h))) = reached_by_end_b d a b h

pub reached_where : (d : ℤ) (a b : Seg) → pos 0 ≤ℤ d → AreWithin (IsOn a) (IsOn b) d ↔ (IsCrossing a b ⊎ (IsEndReached a b d ⊎ IsEndReached b a d))
reached_where d a b hd = (λ h. by_reach d a b (near_by_reach false d a b hd (rational_points_to_reach false d a b h.from h.to h.of_first h.of_second h.within)), reached_of d a b)

pub apart_where : (d : ℤ) (a b : Seg) → pos 0 <ℤ d → AreApart (IsOn a) (IsOn b) d ↔ (¬ (IsCrossing a b) × AreEndsApart a b d × AreEndsApart b a d)
apart_where d a b hd = (
  λ h. ((λ x. not_apart_by_crossing d a b hd x h), (apart_start_a d a b h, apart_end_a d a b h), (apart_start_b d a b h, apart_end_b d a b h)),
  λ h. apart_by d a b (lt-le (pos 0) d hd) h.0 h.1.0 h.1.1 h.2.0 h.2.1,
)
