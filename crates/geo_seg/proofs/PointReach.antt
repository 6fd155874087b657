-- A point and a segment: some point of the segment is nearer than d (`true`) or within d (`false`) where the least gap is.
use Rattle.std.proofs.Common.{◌≡◌, ℤ, pos, ◌+ℤ◌, ◌-ℤ◌, ◌*ℤ◌, ◌≤ℤ◌, ◌<ℤ◌, Bool, true, false, [], ◌∷◌, refl, sym, ◌∙◌}
use Rattle.std.proofs.lemmas.Int.{by_lt_z}
use Rattle.int_algebra.proofs.IntLaws.{one_mul_z}
use Rattle.int_algebra.proofs.Ring.{var, num, ◌⊕◌, ◌⊖◌, ◌⊗◌, sq, ring}
use Rattle.int_algebra.proofs.Order.{product-pos, Below, scale_Below, unscale_Below, le-Below, not_lt}
use Rattle.geo_seg.specs.declared.points.Point.{Point}
use Rattle.geo_seg.specs.declared.points.Seg.{Seg}
use Rattle.geo_seg.specs.Points.{RationalPoint, IsOn, rational_point_of, IsAt}
use Rattle.geo_seg.specs.Nearer.{square, squared_gap, squared_limit, AreApart, AreWithin}
use Rattle.geo_seg.specs.Gap.{between, squared_offset, IsLeastGap}
use Rattle.geo_seg.proofs.RationalPoints.{IsFraction, fraction_gap, rational_points_to_fractions, fractions_to_rational_points, Below_along}

pub record PointReach (r : Bool) (d : ℤ) (p : Point) (s : Seg) : Type 0 where
  pub part : ℤ
  pub whole : ℤ
  pub starts : pos 0 ≤ℤ part
  pub ends : part ≤ℤ whole
  pub positive : pos 0 <ℤ whole
  pub below : Below r (squared_offset p s whole part) (square (d *ℤ whole))

-- the rational point of s at part / whole
abbrev pub rational_point_at : (s : Seg) (whole part : ℤ) → pos 0 <ℤ whole → RationalPoint
rational_point_at s whole part h = record { x = between s.a.x s.b.x whole part; y = between s.a.y s.b.y whole part; w = whole; positive = h }

pub rational_point_at_IsOn : (s : Seg) (whole part : ℤ) (h : pos 0 <ℤ whole) → pos 0 ≤ℤ part → part ≤ℤ whole → IsOn s (rational_point_at s whole part h)
rational_point_at_IsOn s whole part h h0 h1 = record { part = part; whole = whole; starts = h0; ends = h1; positive = h; along_x = refl; along_y = refl }

pub IsOn-IsFraction : (s : Seg) (q : RationalPoint) (o : IsOn s q) → IsFraction q o.whole (between s.a.x s.b.x o.whole o.part) (between s.a.y s.b.y o.whole o.part)
IsOn-IsFraction s q o = record { positive = o.positive; at_x = o.along_x; at_y = o.along_y }

pub rational_point_at-IsFraction : (s : Seg) (whole part : ℤ) (h : pos 0 <ℤ whole) → IsFraction (rational_point_at s whole part h) whole (between s.a.x s.b.x whole part) (between s.a.y s.b.y whole part)
rational_point_at-IsFraction s whole part h = record { positive = h; at_x = refl; at_y = refl }

pub IsAt-IsFraction : (p : Point) (o : RationalPoint) → IsAt p o → IsFraction o (pos 1) p.x p.y
IsAt-IsFraction p o h = record { positive = record { lt = tt }; at_x = one_mul_z o.x ∙ h.at_x; at_y = one_mul_z o.y ∙ h.at_y }

pub rational_point_of-IsAt : (p : Point) → IsAt p (rational_point_of p)
unfolding rational_point_of
rational_point_of-IsAt p = record { at_x = sym (one_mul_z p.x); at_y = sym (one_mul_z p.y) }

one_offset : (x x' y y' n : ℤ) → fraction_gap (pos 1) x y n x' y' ≡ square (n *ℤ x -ℤ x') +ℤ square (n *ℤ y -ℤ y')
one_offset x x' y y' n =
    let a = var 0 in let a' = var 1 in let b = var 2 in let b' = var 3 in let n' = var 4 in
    ring (x ∷ x' ∷ y ∷ y' ∷ n ∷ []) (sq (n' ⊗ a ⊖ num (pos 1) ⊗ a') ⊕ sq (n' ⊗ b ⊖ num (pos 1) ⊗ b')) (sq (n' ⊗ a ⊖ a') ⊕ sq (n' ⊗ b ⊖ b')) tt

one_limit : (d n : ℤ) → square (d *ℤ (pos 1 *ℤ n)) ≡ square (d *ℤ n)
one_limit d n = ring (d ∷ n ∷ []) (sq (var 0 ⊗ (num (pos 1) ⊗ var 1))) (sq (var 0 ⊗ var 1)) tt

pub rational_point_to_reach : (r : Bool) (d : ℤ) (p : Point) (s : Seg) (o q : RationalPoint) → IsAt p o → IsOn s q → Below r (squared_gap o q) (squared_limit d o q) → PointReach r d p s
rational_point_to_reach r d p s o q at on h =
    let x' = between s.a.x s.b.x on.whole on.part in
    let y' = between s.a.y s.b.y on.whole on.part in
    record {
      part = on.part;
      whole = on.whole;
      starts = on.starts;
      ends = on.ends;
      positive = on.positive;
      below = Below_along r (fraction_gap (pos 1) p.x p.y on.whole x' y') (squared_offset p s on.whole on.part) (square (d *ℤ (pos 1 *ℤ on.whole))) (square (d *ℤ on.whole))
          (one_offset p.x x' p.y y' on.whole) (one_limit d on.whole)
          (rational_points_to_fractions r d o q (pos 1) p.x p.y on.whole x' y' (IsAt-IsFraction p o at) (IsOn-IsFraction s q on) h);
    }

pub reach_to_rational_point : (r : Bool) (d : ℤ) (p : Point) (s : Seg) (c : PointReach r d p s) → Below r (squared_gap (rational_point_of p) (rational_point_at s c.whole c.part c.positive)) (squared_limit d (rational_point_of p) (rational_point_at s c.whole c.part c.positive))
reach_to_rational_point r d p s c =
    let q = rational_point_at s c.whole c.part c.positive in
    let x' = between s.a.x s.b.x c.whole c.part in
    let y' = between s.a.y s.b.y c.whole c.part in
    fractions_to_rational_points r d (rational_point_of p) q (pos 1) p.x p.y c.whole x' y' (IsAt-IsFraction p (rational_point_of p) (rational_point_of-IsAt p)) (rational_point_at-IsFraction s c.whole c.part c.positive)
    (Below_along r (squared_offset p s c.whole c.part) (fraction_gap (pos 1) p.x p.y c.whole x' y') (square (d *ℤ c.whole)) (square (d *ℤ (pos 1 *ℤ c.whole)))
    (sym (one_offset p.x x' p.y y' c.whole)) (sym (one_limit d c.whole)) c.below)

-- ---- by the least gap
swap_square : (a w : ℤ) → a *ℤ square w ≡ square w *ℤ a
swap_square a w = ring (a ∷ w ∷ []) (var 0 ⊗ sq (var 1)) (sq (var 1) ⊗ var 0) tt

limit_swap : (d den w : ℤ) → square w *ℤ (square d *ℤ den) ≡ den *ℤ square (d *ℤ w)
limit_swap d den w = ring (d ∷ den ∷ w ∷ []) (sq (var 2) ⊗ (sq (var 0) ⊗ var 1)) (var 1 ⊗ sq (var 0 ⊗ var 2)) tt

pub gap_to_reach : (r : Bool) (d : ℤ) (p : Point) (s : Seg) (top under : ℤ) → IsLeastGap p s top under → Below r top (square d *ℤ under) → PointReach r d p s
gap_to_reach r d p s top under g h = record {
  part = g.part;
  whole = g.whole;
  starts = g.starts;
  ends = g.ends;
  positive = g.whole_positive;
  below = unscale_Below r under (squared_offset p s g.whole g.part) (square (d *ℤ g.whole)) g.positive
      (Below_along r (square g.whole *ℤ top) (under *ℤ squared_offset p s g.whole g.part) (square g.whole *ℤ (square d *ℤ under)) (under *ℤ square (d *ℤ g.whole))
      (sym (swap_square top g.whole) ∙ g.reached) (limit_swap d under g.whole)
      (scale_Below r (square g.whole) top (square d *ℤ under) (product-pos g.whole g.whole g.whole_positive g.whole_positive) h));
}

pub reach_to_gap : (r : Bool) (d : ℤ) (p : Point) (s : Seg) (top under : ℤ) → IsLeastGap p s top under → PointReach r d p s → Below r top (square d *ℤ under)
reach_to_gap r d p s top under g c =
    unscale_Below r (square c.whole) top (square d *ℤ under) (product-pos c.whole c.whole c.positive c.positive)
    (Below_along r (top *ℤ square c.whole) (square c.whole *ℤ top) (under *ℤ square (d *ℤ c.whole)) (square c.whole *ℤ (square d *ℤ under))
    (swap_square top c.whole) (sym (limit_swap d under c.whole))
    (le-Below r (top *ℤ square c.whole) (under *ℤ squared_offset p s c.whole c.part) (under *ℤ square (d *ℤ c.whole))
    (g.least c.whole c.part c.starts c.ends)
    (scale_Below r under (squared_offset p s c.whole c.part) (square (d *ℤ c.whole)) g.positive c.below)))

-- ---- what the functions answer
pub within_of_reach : (d : ℤ) (p : Point) (s : Seg) → PointReach false d p s → AreWithin (IsAt p) (IsOn s) d
within_of_reach d p s c = record { from = rational_point_of p; to = rational_point_at s c.whole c.part c.positive; of_first = rational_point_of-IsAt p; of_second = rational_point_at_IsOn s c.whole c.part c.positive c.starts c.ends; within = reach_to_rational_point false d p s c }

pub reach_of_within : (d : ℤ) (p : Point) (s : Seg) → AreWithin (IsAt p) (IsOn s) d → PointReach false d p s
reach_of_within d p s h = rational_point_to_reach false d p s h.from h.to h.of_first h.of_second h.within

pub apart_of_no_reach : (d : ℤ) (p : Point) (s : Seg) → (PointReach true d p s → ⊥) → AreApart (IsAt p) (IsOn s) d
apart_of_no_reach d p s h = record { apart = λ o q at on n. h (rational_point_to_reach true d p s o q at on n) }

pub no_reach_of_apart : (d : ℤ) (p : Point) (s : Seg) → AreApart (IsAt p) (IsOn s) d → PointReach true d p s → ⊥
no_reach_of_apart d p s h c = h.apart (rational_point_of p) (rational_point_at s c.whole c.part c.positive) (rational_point_of-IsAt p) (rational_point_at_IsOn s c.whole c.part c.positive c.starts c.ends) (reach_to_rational_point true d p s c)

pub within_by_gap : (p : Point) (s : Seg) (d top under : ℤ) → IsLeastGap p s top under → top ≤ℤ (square d *ℤ under) → AreWithin (IsAt p) (IsOn s) d
within_by_gap p s d top under g h = within_of_reach d p s (gap_to_reach false d p s top under g h)

pub gap_of_within : (p : Point) (s : Seg) (d top under : ℤ) → IsLeastGap p s top under → AreWithin (IsAt p) (IsOn s) d → top ≤ℤ (square d *ℤ under)
gap_of_within p s d top under g h = reach_to_gap false d p s top under g (reach_of_within d p s h)

pub apart_by_gap : (p : Point) (s : Seg) (d top under : ℤ) → IsLeastGap p s top under → (square d *ℤ under) ≤ℤ top → AreApart (IsAt p) (IsOn s) d
apart_by_gap p s d top under g h = apart_of_no_reach d p s (λ c. not_lt (square d *ℤ under) top h (reach_to_gap true d p s top under g c))

pub gap_of_apart : (p : Point) (s : Seg) (d top under : ℤ) → IsLeastGap p s top under → AreApart (IsAt p) (IsOn s) d → (square d *ℤ under) ≤ℤ top
gap_of_apart p s d top under g h = by_lt_z top (square d *ℤ under) (λ l. absurd (no_reach_of_apart d p s h (gap_to_reach true d p s top under g l))) (λ l. l)
