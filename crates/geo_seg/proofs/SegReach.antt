-- Two segments: where some points of them are near, the segments cross, or an endpoint of one is near a point of the other.
use Rattle.std.proofs.Common.{◌≡◌, ℤ, pos, negsuc, ◌+ℤ◌, ◌-ℤ◌, ◌*ℤ◌, neg_ℤ, ◌≤ℤ◌, ◌<ℤ◌, ◌⊎◌, Bool, List, [], ◌∷◌, refl, sym, ap, ◌∙◌, subst, inl, inr, arith}
use Rattle.std.proofs.lemmas.Int.{ints}
use Rattle.int_algebra.proofs.Ring.{Expr, var, num, ◌⊕◌, ◌⊖◌, ◌⊗◌, minus, sq, fact, ring, ring_by}
use Rattle.int_algebra.proofs.Order.{product-pos, product-nonneg, square-nonneg, sum-pos, Below, Below-le, scale_Below, le_by, le_gap, lt-le, scale_le, by_sign, le_refl}
use Rattle.geo_seg.specs.declared.points.Seg.{Seg}
use Rattle.geo_seg.specs.Points.{RationalPoint, IsOn}
use Rattle.geo_seg.specs.Nearer.{square, squared_gap, squared_limit}
use Rattle.geo_seg.specs.Gap.{between, squared_offset, turn, turn_a, turn_b, IsFramed, IsCrossing}
use Rattle.geo_seg.proofs.RationalPoints.{fraction_gap, rational_points_to_fractions, fractions_to_rational_points, Below_along}
use Rattle.geo_seg.proofs.PointReach.{PointReach, rational_point_at, rational_point_at-IsFraction, IsOn-IsFraction}
use Rattle.geo_seg.proofs.FirstExit.{Course, AllEnd, AllAt, SomeAt, Exit, first_exit}

-- whole times the step from the point of b at part_b / whole to the point of a at part_a / whole
abbrev pub step : ℤ → ℤ → ℤ → ℤ → ℤ → ℤ → ℤ → ℤ
step a0 a1 b0 b1 whole part_a part_b = between a0 a1 whole part_a -ℤ between b0 b1 whole part_b

abbrev pub squared_step : Seg → Seg → ℤ → ℤ → ℤ → ℤ
squared_step a b whole part_a part_b = square (step a.a.x a.b.x b.a.x b.b.x whole part_a part_b) +ℤ square (step a.a.y a.b.y b.a.y b.b.y whole part_a part_b)

pub record SegReach (r : Bool) (d : ℤ) (a b : Seg) : Type 0 where
  pub whole : ℤ
  pub part_a : ℤ
  pub part_b : ℤ
  pub framed : IsFramed whole part_a part_b
  pub below : Below r (squared_step a b whole part_a part_b) (square (d *ℤ whole))

-- ---- to the rational points and back
joint : (a0 a1 b0 b1 m i n j : ℤ) → n *ℤ between a0 a1 m i -ℤ m *ℤ between b0 b1 n j ≡ step a0 a1 b0 b1 (m *ℤ n) (i *ℤ n) (m *ℤ j)
joint a0 a1 b0 b1 m i n j =
    let a = var 0 in let a' = var 1 in let b = var 2 in let b' = var 3 in let m' = var 4 in let i' = var 5 in let n' = var 6 in let j' = var 7 in
    ring (a0 ∷ a1 ∷ b0 ∷ b1 ∷ m ∷ i ∷ n ∷ j ∷ [])
    (n' ⊗ ((m' ⊖ i') ⊗ a ⊕ i' ⊗ a') ⊖ m' ⊗ ((n' ⊖ j') ⊗ b ⊕ j' ⊗ b'))
    ((m' ⊗ n' ⊖ i' ⊗ n') ⊗ a ⊕ i' ⊗ n' ⊗ a' ⊖ ((m' ⊗ n' ⊖ m' ⊗ j') ⊗ b ⊕ m' ⊗ j' ⊗ b')) tt

both_squares : (x x' y y' : ℤ) → x ≡ x' → y ≡ y' → square x +ℤ square y ≡ square x' +ℤ square y'
both_squares x x' y y' e f = ap (λ z. square z +ℤ square y) e ∙ ap (λ z. square x' +ℤ square z) f

scale_le_right : (c a b : ℤ) → pos 0 ≤ℤ c → a ≤ℤ b → (a *ℤ c) ≤ℤ (b *ℤ c)
scale_le_right c a b h k = le_by (a *ℤ c) (b *ℤ c) (c *ℤ (b -ℤ a)) (ring (a ∷ b ∷ c ∷ []) (var 1 ⊗ var 2 ⊖ var 0 ⊗ var 2) (var 2 ⊗ (var 1 ⊖ var 0)) tt) (product-nonneg c (b -ℤ a) h (le_gap a b k))

pub rational_points_to_reach : (r : Bool) (d : ℤ) (a b : Seg) (p q : RationalPoint) → IsOn a p → IsOn b q → Below r (squared_gap p q) (squared_limit d p q) → SegReach r d a b
rational_points_to_reach r d a b p q o k h =
    let m = o.whole in let i = o.part in let n = k.whole in let j = k.part in
    let m0 = lt-le (pos 0) m o.positive in let n0 = lt-le (pos 0) n k.positive in
    let x = between a.a.x a.b.x m i in let y = between a.a.y a.b.y m i in
    let x' = between b.a.x b.b.x n j in let y' = between b.a.y b.b.y n j in
    record {
      whole = m *ℤ n;
      part_a = i *ℤ n;
      part_b = m *ℤ j;
      framed = record {
        positive = product-pos m n o.positive k.positive;
        starts_a = product-nonneg i n o.starts n0;
        ends_a = scale_le_right n i m n0 o.ends;
        starts_b = product-nonneg m j m0 k.starts;
        ends_b = scale_le m j n m0 k.ends;
      };
      below = Below_along r (fraction_gap m x y n x' y') (squared_step a b (m *ℤ n) (i *ℤ n) (m *ℤ j)) (square (d *ℤ (m *ℤ n))) (square (d *ℤ (m *ℤ n)))
          (both_squares (n *ℤ x -ℤ m *ℤ x') (step a.a.x a.b.x b.a.x b.b.x (m *ℤ n) (i *ℤ n) (m *ℤ j)) (n *ℤ y -ℤ m *ℤ y') (step a.a.y a.b.y b.a.y b.b.y (m *ℤ n) (i *ℤ n) (m *ℤ j))
          (joint a.a.x a.b.x b.a.x b.b.x m i n j) (joint a.a.y a.b.y b.a.y b.b.y m i n j)) refl
          (rational_points_to_fractions r d p q m x y n x' y' (IsOn-IsFraction a p o) (IsOn-IsFraction b q k) h);
    }

pull_out : (t x x' y y' : ℤ) → square t *ℤ (square (x -ℤ x') +ℤ square (y -ℤ y')) ≡ fraction_gap t x y t x' y'
pull_out t x x' y y' =
    let t' = var 0 in let x1 = var 1 in let x2 = var 2 in let y1 = var 3 in let y2 = var 4 in
    ring (t ∷ x ∷ x' ∷ y ∷ y' ∷ []) (sq t' ⊗ (sq (x1 ⊖ x2) ⊕ sq (y1 ⊖ y2))) (sq (t' ⊗ x1 ⊖ t' ⊗ x2) ⊕ sq (t' ⊗ y1 ⊖ t' ⊗ y2)) tt

pull_limit : (d t : ℤ) → square t *ℤ square (d *ℤ t) ≡ square (d *ℤ (t *ℤ t))
pull_limit d t = ring (d ∷ t ∷ []) (sq (var 1) ⊗ sq (var 0 ⊗ var 1)) (sq (var 0 ⊗ (var 1 ⊗ var 1))) tt

pub reach_to_rational_points : (r : Bool) (d : ℤ) (a b : Seg) (c : SegReach r d a b) → Below r (squared_gap (rational_point_at a c.whole c.part_a c.framed.positive) (rational_point_at b c.whole c.part_b c.framed.positive)) (squared_limit d (rational_point_at a c.whole c.part_a c.framed.positive) (rational_point_at b c.whole c.part_b c.framed.positive))
reach_to_rational_points r d a b c =
    let t = c.whole in let i = c.part_a in let j = c.part_b in let h = c.framed.positive in
    let x = between a.a.x a.b.x t i in let y = between a.a.y a.b.y t i in
    let x' = between b.a.x b.b.x t j in let y' = between b.a.y b.b.y t j in
    fractions_to_rational_points r d (rational_point_at a t i h) (rational_point_at b t j h) t x y t x' y' (rational_point_at-IsFraction a t i h) (rational_point_at-IsFraction b t j h)
    (Below_along r (square t *ℤ squared_step a b t i j) (fraction_gap t x y t x' y') (square t *ℤ square (d *ℤ t)) (square (d *ℤ (t *ℤ t)))
    (pull_out t x x' y y') (pull_limit d t)
    (scale_Below r (square t) (squared_step a b t i j) (square (d *ℤ t)) (product-pos t t h h) c.below))

-- ---- a direction in which the step shrinks
-- the point where the lines meet, or a direction along which both points move alike
record Pole (a b : Seg) : Type 0 where
  pub whole : ℤ
  pub part_a : ℤ
  pub part_b : ℤ
  pub nonneg : pos 0 ≤ℤ whole
  pub still_x : step a.a.x a.b.x b.a.x b.b.x whole part_a part_b ≡ pos 0
  pub still_y : step a.a.y a.b.y b.a.y b.b.y whole part_a part_b ≡ pos 0
  pub escapes : pos 0 ≤ℤ part_a → pos 0 ≤ℤ (whole -ℤ part_a) → pos 0 ≤ℤ part_b → pos 0 ≤ℤ (whole -ℤ part_b) → IsCrossing a b

abbrev corners : Seg → Seg → List ℤ
corners a b = a.a.x ∷ a.a.y ∷ a.b.x ∷ a.b.y ∷ b.a.x ∷ b.a.y ∷ b.b.x ∷ b.b.y ∷ []

abbrev a0x : Expr
a0x = var 0

abbrev a0y : Expr
a0y = var 1

abbrev a1x : Expr
a1x = var 2

abbrev a1y : Expr
a1y = var 3

abbrev b0x : Expr
b0x = var 4

abbrev b0y : Expr
b0y = var 5

abbrev b1x : Expr
b1x = var 6

abbrev b1y : Expr
b1y = var 7

abbrev step' : Expr → Expr → Expr → Expr → Expr → Expr → Expr → Expr
step' p p' q q' t i j = ((t ⊖ i) ⊗ p ⊕ i ⊗ p') ⊖ ((t ⊖ j) ⊗ q ⊕ j ⊗ q')

abbrev turn' : Expr
turn' = (a1x ⊖ a0x) ⊗ (b1y ⊖ b0y) ⊖ (a1y ⊖ a0y) ⊗ (b1x ⊖ b0x)

abbrev turn_a' : Expr
turn_a' = (b1x ⊖ b0x) ⊗ (a0y ⊖ b0y) ⊖ (b1y ⊖ b0y) ⊗ (a0x ⊖ b0x)

abbrev turn_b' : Expr
turn_b' = (a1x ⊖ a0x) ⊗ (a0y ⊖ b0y) ⊖ (a1y ⊖ a0y) ⊗ (a0x ⊖ b0x)

abbrev zero' : Expr
zero' = num (pos 0)

abbrev one' : Expr
one' = num (pos 1)

above : (a b : ℤ) → pos 0 ≤ℤ (b -ℤ a) → a ≤ℤ b
above a b h = omega (arith, ints)

neg-pos : (z : ℤ) → z <ℤ pos 0 → pos 0 <ℤ neg_ℤ z
neg-pos z h = omega (arith, ints)

stuck : (z : ℤ) → ¬ (z ≡ pos 0) → pos 0 ≤ℤ z → pos 0 ≤ℤ (pos 0 -ℤ z) → ⊥
stuck z n h k = n (omega (arith, ints))

not-minus_one : pos 0 ≤ℤ (pos 0 -ℤ pos 1) → ⊥
not-minus_one h = omega (arith, ints)

apart_of_neg : (z : ℤ) → z <ℤ pos 0 → z ≡ pos 0 → ⊥
apart_of_neg z h e = omega (arith, ints)

apart_of_pos : (z : ℤ) → pos 0 <ℤ z → z ≡ pos 0 → ⊥
apart_of_pos z h e = omega (arith, ints)

pole_ahead : (a b : Seg) → pos 0 <ℤ turn a b → Pole a b
pole_ahead a b h = record {
  whole = turn a b;
  part_a = turn_a a b;
  part_b = turn_b a b;
  nonneg = lt-le (pos 0) (turn a b) h;
  still_x = ring (corners a b) (step' a0x a1x b0x b1x turn' turn_a' turn_b') zero' tt;
  still_y = ring (corners a b) (step' a0y a1y b0y b1y turn' turn_a' turn_b') zero' tt;
  escapes = λ h0 h1 h2 h3. inl (record { positive = h; starts_a = h0; ends_a = above (turn_a a b) (turn a b) h1; starts_b = h2; ends_b = above (turn_b a b) (turn a b) h3 });
}

pole_behind : (a b : Seg) → turn a b <ℤ pos 0 → Pole a b
pole_behind a b h = record {
  whole = neg_ℤ (turn a b);
  part_a = neg_ℤ (turn_a a b);
  part_b = neg_ℤ (turn_b a b);
  nonneg = lt-le (pos 0) (neg_ℤ (turn a b)) (neg-pos (turn a b) h);
  still_x = ring (corners a b) (step' a0x a1x b0x b1x (minus turn') (minus turn_a') (minus turn_b')) zero' tt;
  still_y = ring (corners a b) (step' a0y a1y b0y b1y (minus turn') (minus turn_a') (minus turn_b')) zero' tt;
  escapes = λ h0 h1 h2 h3. inr (record { positive = neg-pos (turn a b) h; starts_a = h0; ends_a = above (neg_ℤ (turn_a a b)) (neg_ℤ (turn a b)) h1; starts_b = h2; ends_b = above (neg_ℤ (turn_b a b)) (neg_ℤ (turn a b)) h3 });
}

-- the segments are parallel
pole_x : (a b : Seg) → turn a b ≡ pos 0 → ¬ (b.b.x -ℤ b.a.x ≡ pos 0) → Pole a b
pole_x a b e n = record {
  whole = pos 0;
  part_a = b.b.x -ℤ b.a.x;
  part_b = a.b.x -ℤ a.a.x;
  nonneg = record { le = tt };
  still_x = ring (corners a b) (step' a0x a1x b0x b1x zero' (b1x ⊖ b0x) (a1x ⊖ a0x)) zero' tt;
  still_y = ring_by (corners a b) (fact (num (negsuc 0)) turn' zero' ∷ []) (e, tt) (step' a0y a1y b0y b1y zero' (b1x ⊖ b0x) (a1x ⊖ a0x)) zero' tt;
  escapes = λ h0 h1 h2 h3. absurd (stuck (b.b.x -ℤ b.a.x) n h0 h1);
}

pole_y : (a b : Seg) → turn a b ≡ pos 0 → ¬ (b.b.y -ℤ b.a.y ≡ pos 0) → Pole a b
pole_y a b e n = record {
  whole = pos 0;
  part_a = b.b.y -ℤ b.a.y;
  part_b = a.b.y -ℤ a.a.y;
  nonneg = record { le = tt };
  still_x = ring_by (corners a b) (fact one' turn' zero' ∷ []) (e, tt) (step' a0x a1x b0x b1x zero' (b1y ⊖ b0y) (a1y ⊖ a0y)) zero' tt;
  still_y = ring (corners a b) (step' a0y a1y b0y b1y zero' (b1y ⊖ b0y) (a1y ⊖ a0y)) zero' tt;
  escapes = λ h0 h1 h2 h3. absurd (stuck (b.b.y -ℤ b.a.y) n h0 h1);
}

-- b is a point
pole_point : (a b : Seg) → b.b.x -ℤ b.a.x ≡ pos 0 → b.b.y -ℤ b.a.y ≡ pos 0 → Pole a b
pole_point a b e f = record {
  whole = pos 0;
  part_a = pos 0;
  part_b = pos 1;
  nonneg = record { le = tt };
  still_x = ring_by (corners a b) (fact (num (negsuc 0)) (b1x ⊖ b0x) zero' ∷ []) (e, tt) (step' a0x a1x b0x b1x zero' zero' one') zero' tt;
  still_y = ring_by (corners a b) (fact (num (negsuc 0)) (b1y ⊖ b0y) zero' ∷ []) (f, tt) (step' a0y a1y b0y b1y zero' zero' one') zero' tt;
  escapes = λ h0 h1 h2 h3. absurd (not-minus_one h3);
}

pole : (a b : Seg) → Pole a b
pole a b = by_sign (turn a b) (pole_behind a b)
    (λ e. by_sign (b.b.x -ℤ b.a.x) (λ n. pole_x a b e (apart_of_neg (b.b.x -ℤ b.a.x) n))
    (λ f. by_sign (b.b.y -ℤ b.a.y) (λ n. pole_y a b e (apart_of_neg (b.b.y -ℤ b.a.y) n)) (λ g. pole_point a b f g) (λ n. pole_y a b e (apart_of_pos (b.b.y -ℤ b.a.y) n)))
    (λ n. pole_x a b e (apart_of_pos (b.b.x -ℤ b.a.x) n)))
    (pole_ahead a b)

-- ---- the move towards the pole
moved : (p p' q q' t i j dt di dj c k : ℤ) → step p p' q q' dt di dj ≡ pos 0 → c *ℤ step p p' q q' t i j ≡ step p p' q q' (c *ℤ t +ℤ k *ℤ dt) (c *ℤ i +ℤ k *ℤ di) (c *ℤ j +ℤ k *ℤ dj)
moved p p' q q' t i j dt di dj c k e =
    let P = var 0 in let P' = var 1 in let Q = var 2 in let Q' = var 3 in let T = var 4 in let I = var 5 in let J = var 6 in
    let DT = var 7 in let DI = var 8 in let DJ = var 9 in let C = var 10 in let K = var 11 in
    ring_by (p ∷ p' ∷ q ∷ q' ∷ t ∷ i ∷ j ∷ dt ∷ di ∷ dj ∷ c ∷ k ∷ []) (fact (minus K) (step' P P' Q Q' DT DI DJ) zero' ∷ []) (e, tt)
    (C ⊗ step' P P' Q Q' T I J) (step' P P' Q Q' (C ⊗ T ⊕ K ⊗ DT) (C ⊗ I ⊕ K ⊗ DI) (C ⊗ J ⊕ K ⊗ DJ)) tt

scaled_squares : (c x y x' y' : ℤ) → c *ℤ x ≡ x' → c *ℤ y ≡ y' → square c *ℤ (square x +ℤ square y) ≡ square x' +ℤ square y'
scaled_squares c x y x' y' e f =
    ring (c ∷ x ∷ y ∷ []) (sq (var 0) ⊗ (sq (var 1) ⊕ sq (var 2))) (sq (var 0 ⊗ var 1) ⊕ sq (var 0 ⊗ var 2)) tt ∙ both_squares (c *ℤ x) x' (c *ℤ y) y' e f

pub data Near (r : Bool) (d : ℤ) (a b : Seg) : Type 0 where
  crossing : IsCrossing a b → Near r d a b
  start_a : PointReach r d a.a b → Near r d a b
  end_a : PointReach r d a.b b → Near r d a b
  start_b : PointReach r d b.a a → Near r d a b
  end_b : PointReach r d b.b a → Near r d a b

abbrev courses : (t i j dt di dj : ℤ) → List Course
courses t i j dt di dj = record { begin = i; end = di } ∷ record { begin = t -ℤ i; end = dt -ℤ di } ∷ record { begin = j; end = dj } ∷ record { begin = t -ℤ j; end = dt -ℤ dj } ∷ []

rest_moved : (c k t i dt di : ℤ) → c *ℤ (t -ℤ i) +ℤ k *ℤ (dt -ℤ di) ≡ c *ℤ t +ℤ k *ℤ dt -ℤ (c *ℤ i +ℤ k *ℤ di)
rest_moved c k t i dt di =
    let C = var 0 in let K = var 1 in let T = var 2 in let I = var 3 in let DT = var 4 in let DI = var 5 in
    ring (c ∷ k ∷ t ∷ i ∷ dt ∷ di ∷ []) (C ⊗ (T ⊖ I) ⊕ K ⊗ (DT ⊖ DI)) (C ⊗ T ⊕ K ⊗ DT ⊖ (C ⊗ I ⊕ K ⊗ DI)) tt

nonneg_along : (a b : ℤ) → a ≡ b → pos 0 ≤ℤ a → pos 0 ≤ℤ b
nonneg_along a b e h = subst (λ (z : ℤ). pos 0 ≤ℤ z) e h

-- a longer whole only widens the limit
wider : (d c t t' : ℤ) → pos 0 ≤ℤ d → pos 0 ≤ℤ (c *ℤ t) → (c *ℤ t) ≤ℤ t' → (square c *ℤ square (d *ℤ t)) ≤ℤ square (d *ℤ t')
wider d c t t' hd h0 h =
    le_by (square c *ℤ square (d *ℤ t)) (square (d *ℤ t')) (square d *ℤ ((t' -ℤ c *ℤ t) *ℤ (t' +ℤ c *ℤ t)))
    (ring (d ∷ c ∷ t ∷ t' ∷ []) (sq (var 0 ⊗ var 3) ⊖ sq (var 1) ⊗ sq (var 0 ⊗ var 2)) (sq (var 0) ⊗ ((var 3 ⊖ var 1 ⊗ var 2) ⊗ (var 3 ⊕ var 1 ⊗ var 2))) tt)
    (product-nonneg (square d) ((t' -ℤ c *ℤ t) *ℤ (t' +ℤ c *ℤ t)) (square-nonneg d)
    (product-nonneg (t' -ℤ c *ℤ t) (t' +ℤ c *ℤ t) (le_gap (c *ℤ t) t' h) (both t' (c *ℤ t) h h0)))
  where
    both : (x y : ℤ) → y ≤ℤ x → pos 0 ≤ℤ y → pos 0 ≤ℤ (x +ℤ y)
    both x y h k = omega (arith, ints)

past : (x y : ℤ) → pos 0 ≤ℤ y → x ≤ℤ (x +ℤ y)
past x y h = omega (arith, ints)

-- at a place where one of the four is 0, an endpoint is near
at_start : (p p' B t i : ℤ) → i ≡ pos 0 → between p p' t i -ℤ B ≡ t *ℤ p -ℤ B
at_start p p' B t i e = ring_by (p ∷ p' ∷ B ∷ t ∷ i ∷ []) (fact (var 1 ⊖ var 0) (var 4) zero' ∷ []) (e, tt) ((var 3 ⊖ var 4) ⊗ var 0 ⊕ var 4 ⊗ var 1 ⊖ var 2) (var 3 ⊗ var 0 ⊖ var 2) tt

at_end : (p p' B t i : ℤ) → t -ℤ i ≡ pos 0 → between p p' t i -ℤ B ≡ t *ℤ p' -ℤ B
at_end p p' B t i e = ring_by (p ∷ p' ∷ B ∷ t ∷ i ∷ []) (fact (var 0 ⊖ var 1) (var 3 ⊖ var 4) zero' ∷ []) (e, tt) ((var 3 ⊖ var 4) ⊗ var 0 ⊕ var 4 ⊗ var 1 ⊖ var 2) (var 3 ⊗ var 1 ⊖ var 2) tt

at_start_b : (q q' A t j : ℤ) → j ≡ pos 0 → A -ℤ between q q' t j ≡ neg_ℤ (t *ℤ q -ℤ A)
at_start_b q q' A t j e = ring_by (q ∷ q' ∷ A ∷ t ∷ j ∷ []) (fact (var 0 ⊖ var 1) (var 4) zero' ∷ []) (e, tt) (var 2 ⊖ ((var 3 ⊖ var 4) ⊗ var 0 ⊕ var 4 ⊗ var 1)) (minus (var 3 ⊗ var 0 ⊖ var 2)) tt

at_end_b : (q q' A t j : ℤ) → t -ℤ j ≡ pos 0 → A -ℤ between q q' t j ≡ neg_ℤ (t *ℤ q' -ℤ A)
at_end_b q q' A t j e = ring_by (q ∷ q' ∷ A ∷ t ∷ j ∷ []) (fact (var 1 ⊖ var 0) (var 3 ⊖ var 4) zero' ∷ []) (e, tt) (var 2 ⊖ ((var 3 ⊖ var 4) ⊗ var 0 ⊕ var 4 ⊗ var 1)) (minus (var 3 ⊗ var 1 ⊖ var 2)) tt

neg_squares : (x y x' y' : ℤ) → x ≡ neg_ℤ x' → y ≡ neg_ℤ y' → square x +ℤ square y ≡ square x' +ℤ square y'
neg_squares x y x' y' e f = both_squares x (neg_ℤ x') y (neg_ℤ y') e f ∙ ring (x' ∷ y' ∷ []) (sq (minus (var 0)) ⊕ sq (minus (var 1))) (sq (var 0) ⊕ sq (var 1)) tt

near_start_a : (r : Bool) (d : ℤ) (a b : Seg) (c : SegReach r d a b) → c.part_a ≡ pos 0 → PointReach r d a.a b
near_start_a r d a b c e =
    let t = c.whole in let i = c.part_a in let j = c.part_b in
    record {
      part = j;
      whole = t;
      starts = c.framed.starts_b;
      ends = c.framed.ends_b;
      positive = c.framed.positive;
      below = Below_along r (squared_step a b t i j) (squared_offset a.a b t j) (square (d *ℤ t)) (square (d *ℤ t))
          (both_squares (step a.a.x a.b.x b.a.x b.b.x t i j) (t *ℤ a.a.x -ℤ between b.a.x b.b.x t j) (step a.a.y a.b.y b.a.y b.b.y t i j) (t *ℤ a.a.y -ℤ between b.a.y b.b.y t j)
          (at_start a.a.x a.b.x (between b.a.x b.b.x t j) t i e) (at_start a.a.y a.b.y (between b.a.y b.b.y t j) t i e)) refl c.below;
    }

near_end_a : (r : Bool) (d : ℤ) (a b : Seg) (c : SegReach r d a b) → c.whole -ℤ c.part_a ≡ pos 0 → PointReach r d a.b b
near_end_a r d a b c e =
    let t = c.whole in let i = c.part_a in let j = c.part_b in
    record {
      part = j;
      whole = t;
      starts = c.framed.starts_b;
      ends = c.framed.ends_b;
      positive = c.framed.positive;
      below = Below_along r (squared_step a b t i j) (squared_offset a.b b t j) (square (d *ℤ t)) (square (d *ℤ t))
          (both_squares (step a.a.x a.b.x b.a.x b.b.x t i j) (t *ℤ a.b.x -ℤ between b.a.x b.b.x t j) (step a.a.y a.b.y b.a.y b.b.y t i j) (t *ℤ a.b.y -ℤ between b.a.y b.b.y t j)
          (at_end a.a.x a.b.x (between b.a.x b.b.x t j) t i e) (at_end a.a.y a.b.y (between b.a.y b.b.y t j) t i e)) refl c.below;
    }

near_start_b : (r : Bool) (d : ℤ) (a b : Seg) (c : SegReach r d a b) → c.part_b ≡ pos 0 → PointReach r d b.a a
near_start_b r d a b c e =
    let t = c.whole in let i = c.part_a in let j = c.part_b in
    record {
      part = i;
      whole = t;
      starts = c.framed.starts_a;
      ends = c.framed.ends_a;
      positive = c.framed.positive;
      below = Below_along r (squared_step a b t i j) (squared_offset b.a a t i) (square (d *ℤ t)) (square (d *ℤ t))
          (neg_squares (step a.a.x a.b.x b.a.x b.b.x t i j) (step a.a.y a.b.y b.a.y b.b.y t i j) (t *ℤ b.a.x -ℤ between a.a.x a.b.x t i) (t *ℤ b.a.y -ℤ between a.a.y a.b.y t i)
          (at_start_b b.a.x b.b.x (between a.a.x a.b.x t i) t j e) (at_start_b b.a.y b.b.y (between a.a.y a.b.y t i) t j e)) refl c.below;
    }

near_end_b : (r : Bool) (d : ℤ) (a b : Seg) (c : SegReach r d a b) → c.whole -ℤ c.part_b ≡ pos 0 → PointReach r d b.b a
near_end_b r d a b c e =
    let t = c.whole in let i = c.part_a in let j = c.part_b in
    record {
      part = i;
      whole = t;
      starts = c.framed.starts_a;
      ends = c.framed.ends_a;
      positive = c.framed.positive;
      below = Below_along r (squared_step a b t i j) (squared_offset b.b a t i) (square (d *ℤ t)) (square (d *ℤ t))
          (neg_squares (step a.a.x a.b.x b.a.x b.b.x t i j) (step a.a.y a.b.y b.a.y b.b.y t i j) (t *ℤ b.b.x -ℤ between a.a.x a.b.x t i) (t *ℤ b.b.y -ℤ between a.a.y a.b.y t i)
          (at_end_b b.a.x b.b.x (between a.a.x a.b.x t i) t j e) (at_end_b b.a.y b.b.y (between a.a.y a.b.y t i) t j e)) refl c.below;
    }

-- the place that an exit names
moved_reach : (r : Bool) (d : ℤ) (a b : Seg) → pos 0 ≤ℤ d → (c : SegReach r d a b) (p : Pole a b) (m k : ℤ) → pos 0 <ℤ m → pos 0 ≤ℤ k → AllAt m k (courses c.whole c.part_a c.part_b p.whole p.part_a p.part_b) → SegReach r d a b
moved_reach r d a b hd c p m k hm hk at =
    let t = c.whole in let i = c.part_a in let j = c.part_b in
    let dt = p.whole in let di = p.part_a in let dj = p.part_b in
    let t' = m *ℤ t +ℤ k *ℤ dt in let i' = m *ℤ i +ℤ k *ℤ di in let j' = m *ℤ j +ℤ k *ℤ dj in
    let kept = product-pos m t hm c.framed.positive in
    let added = product-nonneg k dt hk p.nonneg in
    record {
      whole = t';
      part_a = i';
      part_b = j';
      framed = record {
        positive = sum-pos (m *ℤ t) (k *ℤ dt) kept added;
        starts_a = at.0;
        ends_a = above i' t' (nonneg_along (m *ℤ (t -ℤ i) +ℤ k *ℤ (dt -ℤ di)) (t' -ℤ i') (rest_moved m k t i dt di) at.1.0);
        starts_b = at.1.1.0;
        ends_b = above j' t' (nonneg_along (m *ℤ (t -ℤ j) +ℤ k *ℤ (dt -ℤ dj)) (t' -ℤ j') (rest_moved m k t j dt dj) at.1.1.1.0);
      };
      below = Below-le r (squared_step a b t' i' j') (square m *ℤ square (d *ℤ t)) (square (d *ℤ t'))
          (Below_along r (square m *ℤ squared_step a b t i j) (squared_step a b t' i' j') (square m *ℤ square (d *ℤ t)) (square m *ℤ square (d *ℤ t))
          (scaled_squares m (step a.a.x a.b.x b.a.x b.b.x t i j) (step a.a.y a.b.y b.a.y b.b.y t i j) (step a.a.x a.b.x b.a.x b.b.x t' i' j') (step a.a.y a.b.y b.a.y b.b.y t' i' j')
          (moved a.a.x a.b.x b.a.x b.b.x t i j dt di dj m k p.still_x) (moved a.a.y a.b.y b.a.y b.b.y t i j dt di dj m k p.still_y)) refl
          (scale_Below r (square m) (squared_step a b t i j) (square (d *ℤ t)) (product-pos m m hm hm) c.below))
          (wider d m t t' hd (lt-le (pos 0) (m *ℤ t) kept) (past (m *ℤ t) (k *ℤ dt) added));
    }

edge : (r : Bool) (d : ℤ) (a b : Seg) → pos 0 ≤ℤ d → (c : SegReach r d a b) (p : Pole a b) (m k : ℤ) → pos 0 <ℤ m → pos 0 ≤ℤ k → AllAt m k (courses c.whole c.part_a c.part_b p.whole p.part_a p.part_b) → SomeAt m k (courses c.whole c.part_a c.part_b p.whole p.part_a p.part_b) → Near r d a b
unfolding moved_reach
edge r d a b hd c p m k hm hk at (inl e) = start_a (near_start_a r d a b (moved_reach r d a b hd c p m k hm hk at) e)
edge r d a b hd c p m k hm hk at (inr (inl e)) = end_a (near_end_a r d a b (moved_reach r d a b hd c p m k hm hk at) (sym (rest_moved m k c.whole c.part_a p.whole p.part_a) ∙ e))
edge r d a b hd c p m k hm hk at (inr (inr (inl e))) = start_b (near_start_b r d a b (moved_reach r d a b hd c p m k hm hk at) e)
edge r d a b hd c p m k hm hk at (inr (inr (inr (inl e)))) = end_b (near_end_b r d a b (moved_reach r d a b hd c p m k hm hk at) (sym (rest_moved m k c.whole c.part_b p.whole p.part_b) ∙ e))
edge r d a b hd c p m k hm hk at (inr (inr (inr (inr e)))) = absurd e

by_exit : (r : Bool) (d : ℤ) (a b : Seg) → pos 0 ≤ℤ d → (c : SegReach r d a b) (p : Pole a b) → AllEnd (courses c.whole c.part_a c.part_b p.whole p.part_a p.part_b) ⊎ Exit (courses c.whole c.part_a c.part_b p.whole p.part_a p.part_b) → Near r d a b
by_exit r d a b hd c p (inl e) = crossing (p.escapes e.0 e.1.0 e.1.1.0 e.1.1.1.0)
by_exit r d a b hd c p (inr x) = edge r d a b hd c p x.stay x.move x.stays x.moves x.inside x.edge

-- where points of a and b are near, the segments cross or an endpoint is near
pub near_by_reach : (r : Bool) (d : ℤ) (a b : Seg) → pos 0 ≤ℤ d → SegReach r d a b → Near r d a b
near_by_reach r d a b hd c =
    let p = pole a b in
    by_exit r d a b hd c p (first_exit (courses c.whole c.part_a c.part_b p.whole p.part_a p.part_b)
    (c.framed.starts_a, (le_gap c.part_a c.whole c.framed.ends_a, (c.framed.starts_b, (le_gap c.part_b c.whole c.framed.ends_b, tt)))))

-- ---- the other way
framed_reach : (r : Bool) (d : ℤ) (a b : Seg) (t i j : ℤ) → IsFramed t i j → step a.a.x a.b.x b.a.x b.b.x t i j ≡ pos 0 → step a.a.y a.b.y b.a.y b.b.y t i j ≡ pos 0 → Below r (pos 0) (square (d *ℤ t)) → SegReach r d a b
framed_reach r d a b t i j f e g h = record {
  whole = t;
  part_a = i;
  part_b = j;
  framed = f;
  below = Below_along r (pos 0) (squared_step a b t i j) (square (d *ℤ t)) (square (d *ℤ t)) (sym (both_squares (step a.a.x a.b.x b.a.x b.b.x t i j) (pos 0) (step a.a.y a.b.y b.a.y b.b.y t i j) (pos 0) e g)) refl h;
}

pub crossing_reach : (r : Bool) (d : ℤ) (a b : Seg) → ((t : ℤ) → pos 0 <ℤ t → Below r (pos 0) (square (d *ℤ t))) → IsCrossing a b → SegReach r d a b
crossing_reach r d a b h (inl f) = framed_reach r d a b (turn a b) (turn_a a b) (turn_b a b) f
    (ring (corners a b) (step' a0x a1x b0x b1x turn' turn_a' turn_b') zero' tt)
    (ring (corners a b) (step' a0y a1y b0y b1y turn' turn_a' turn_b') zero' tt) (h (turn a b) f.positive)
crossing_reach r d a b h (inr f) = framed_reach r d a b (neg_ℤ (turn a b)) (neg_ℤ (turn_a a b)) (neg_ℤ (turn_b a b)) f
    (ring (corners a b) (step' a0x a1x b0x b1x (minus turn') (minus turn_a') (minus turn_b')) zero' tt)
    (ring (corners a b) (step' a0y a1y b0y b1y (minus turn') (minus turn_a') (minus turn_b')) zero' tt) (h (neg_ℤ (turn a b)) f.positive)

self_zero : (t : ℤ) → t -ℤ t ≡ pos 0
self_zero t = omega (arith, ints)

pub start_a_reach : (r : Bool) (d : ℤ) (a b : Seg) → PointReach r d a.a b → SegReach r d a b
start_a_reach r d a b c =
    let t = c.whole in let i = pos 0 in let j = c.part in
    record {
      whole = t;
      part_a = i;
      part_b = j;
      framed = record { positive = c.positive; starts_a = record { le = tt }; ends_a = lt-le (pos 0) t c.positive; starts_b = c.starts; ends_b = c.ends };
      below = Below_along r (squared_offset a.a b t j) (squared_step a b t i j) (square (d *ℤ t)) (square (d *ℤ t))
          (sym (both_squares (step a.a.x a.b.x b.a.x b.b.x t i j) (t *ℤ a.a.x -ℤ between b.a.x b.b.x t j) (step a.a.y a.b.y b.a.y b.b.y t i j) (t *ℤ a.a.y -ℤ between b.a.y b.b.y t j)
          (at_start a.a.x a.b.x (between b.a.x b.b.x t j) t i refl) (at_start a.a.y a.b.y (between b.a.y b.b.y t j) t i refl))) refl c.below;
    }

pub end_a_reach : (r : Bool) (d : ℤ) (a b : Seg) → PointReach r d a.b b → SegReach r d a b
end_a_reach r d a b c =
    let t = c.whole in let i = c.whole in let j = c.part in
    record {
      whole = t;
      part_a = i;
      part_b = j;
      framed = record { positive = c.positive; starts_a = lt-le (pos 0) t c.positive; ends_a = le_refl t; starts_b = c.starts; ends_b = c.ends };
      below = Below_along r (squared_offset a.b b t j) (squared_step a b t i j) (square (d *ℤ t)) (square (d *ℤ t))
          (sym (both_squares (step a.a.x a.b.x b.a.x b.b.x t i j) (t *ℤ a.b.x -ℤ between b.a.x b.b.x t j) (step a.a.y a.b.y b.a.y b.b.y t i j) (t *ℤ a.b.y -ℤ between b.a.y b.b.y t j)
          (at_end a.a.x a.b.x (between b.a.x b.b.x t j) t i (self_zero t)) (at_end a.a.y a.b.y (between b.a.y b.b.y t j) t i (self_zero t)))) refl c.below;
    }

pub start_b_reach : (r : Bool) (d : ℤ) (a b : Seg) → PointReach r d b.a a → SegReach r d a b
start_b_reach r d a b c =
    let t = c.whole in let i = c.part in let j = pos 0 in
    record {
      whole = t;
      part_a = i;
      part_b = j;
      framed = record { positive = c.positive; starts_a = c.starts; ends_a = c.ends; starts_b = record { le = tt }; ends_b = lt-le (pos 0) t c.positive };
      below = Below_along r (squared_offset b.a a t i) (squared_step a b t i j) (square (d *ℤ t)) (square (d *ℤ t))
          (sym (neg_squares (step a.a.x a.b.x b.a.x b.b.x t i j) (step a.a.y a.b.y b.a.y b.b.y t i j) (t *ℤ b.a.x -ℤ between a.a.x a.b.x t i) (t *ℤ b.a.y -ℤ between a.a.y a.b.y t i)
          (at_start_b b.a.x b.b.x (between a.a.x a.b.x t i) t j refl) (at_start_b b.a.y b.b.y (between a.a.y a.b.y t i) t j refl))) refl c.below;
    }

pub end_b_reach : (r : Bool) (d : ℤ) (a b : Seg) → PointReach r d b.b a → SegReach r d a b
end_b_reach r d a b c =
    let t = c.whole in let i = c.part in let j = c.whole in
    record {
      whole = t;
      part_a = i;
      part_b = j;
      framed = record { positive = c.positive; starts_a = c.starts; ends_a = c.ends; starts_b = lt-le (pos 0) t c.positive; ends_b = le_refl t };
      below = Below_along r (squared_offset b.b a t i) (squared_step a b t i j) (square (d *ℤ t)) (square (d *ℤ t))
          (sym (neg_squares (step a.a.x a.b.x b.a.x b.b.x t i j) (step a.a.y a.b.y b.a.y b.b.y t i j) (t *ℤ b.b.x -ℤ between a.a.x a.b.x t i) (t *ℤ b.b.y -ℤ between a.a.y a.b.y t i)
          (at_end_b b.a.x b.b.x (between a.a.x a.b.x t i) t j (self_zero t)) (at_end_b b.a.y b.b.y (between a.a.y a.b.y t i) t j (self_zero t)))) refl c.below;
    }
