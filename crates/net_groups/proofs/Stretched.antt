-- Item boxes that are moved and stretched: those that met still do.
use Rattle.std.proofs.Common.{◌≡◌, ℕ, ◌+◌, ◌-◌, ◌<◌, ℤ, pos, neg_ℤ, ◌-ℤ◌, ◌*ℤ◌, ◌≤ℤ◌, List, [], ◌∷◌, ◌++◌, length, get_or, All, inl, inr, refl, sym, subst, ap, ◌∙◌, arith}
use Rattle.std.specs.Int.{int_max, int_min}
use Rattle.std.proofs.lemmas.Int.{ints, clamps}
use Rattle.std.proofs.lemmas.Bool.{cases_lt}
use Rattle.std.proofs.lemmas.List.{get_or_append_left, get_or-append_right, length_push}
use Rattle.std.proofs.lemmas.List.Elements.{All-push}
use Rattle.std.proofs.Common.{◌≤◌, FitsSigned, unsigned_abs, mul-le-mul}
use Rattle.std.proofs.lemmas.Int.{fits_signed_mul, unsigned_abs-mul}
use mir.Syntax.{w64}
use Rattle.int_algebra.proofs.Order.{scale_le}
use Rattle.int_algebra.proofs.Scalars.{passed, passed_is}
use Rattle.geo_seg.specs.declared.boxes.Bounds.{Bounds}
use Rattle.geo_seg.specs.Boxes.{BoxesMeet, FitsWithin}
use Rattle.net_groups.specs.declared.stretch.Stretch.{Stretch}
use Rattle.net_groups.specs.Stretches.{stretched_line, stretched}
use Rattle.net_groups.specs.ItemBoxes.{AreSpread}

clamped : (a b : ℤ) → a ≤ℤ b → int_max (int_min a (pos 1500000000)) (neg_ℤ (pos 1500000000)) ≤ℤ int_max (int_min b (pos 1500000000)) (neg_ℤ (pos 1500000000))
clamped a b h = omega (arith, ints, clamps)

clamped_from : (a : ℤ) → neg_ℤ (pos 1500000000) ≤ℤ int_max (int_min a (pos 1500000000)) (neg_ℤ (pos 1500000000))
clamped_from a = omega (arith, ints, clamps)

clamped_to : (a : ℤ) → int_max (int_min a (pos 1500000000)) (neg_ℤ (pos 1500000000)) ≤ℤ pos 1500000000
clamped_to a = omega (arith, ints, clamps)

moved : (from z w : ℤ) → z ≤ℤ w → (z -ℤ from) ≤ℤ (w -ℤ from)
moved from z w h = omega (arith, ints)

from_zero : (n : ℤ) → pos 1 ≤ℤ n → pos 0 ≤ℤ n
from_zero n h = omega (arith, ints)

line_le : (from times z w : ℤ) → pos 1 ≤ℤ times → z ≤ℤ w → stretched_line from times z ≤ℤ stretched_line from times w
line_le from times z w h k = clamped (times *ℤ (z -ℤ from)) (times *ℤ (w -ℤ from)) (scale_le times (z -ℤ from) (w -ℤ from) (from_zero times h) (moved from z w k))

pub stretched_fits : (s : Stretch) (b : Bounds) → FitsWithin (pos 1500000000) b → FitsWithin (pos 1500000000) (stretched s b)
stretched_fits s b f = record {
  wide = line_le s.x s.times b.left b.right s.times_from f.wide;
  high = line_le s.y s.times b.top b.bottom s.times_from f.high;
  left = clamped_from (s.times *ℤ (b.left -ℤ s.x));
  top = clamped_from (s.times *ℤ (b.top -ℤ s.y));
  right = clamped_to (s.times *ℤ (b.right -ℤ s.x));
  bottom = clamped_to (s.times *ℤ (b.bottom -ℤ s.y));
}

pub stretched_meet : (s : Stretch) (b c : Bounds) → BoxesMeet b c → BoxesMeet (stretched s b) (stretched s c)
stretched_meet s b c m = record {
  left = line_le s.x s.times b.left c.right s.times_from m.left;
  right = line_le s.x s.times c.left b.right s.times_from m.right;
  top = line_le s.y s.times b.top c.bottom s.times_from m.top;
  bottom = line_le s.y s.times c.top b.bottom s.times_from m.bottom;
}

-- ---- numbers as they are passed
pub record IsNear (z : ℤ) : Type 0 where
  pub from : neg_ℤ (pos 1500000000) ≤ℤ z
  pub to : z ≤ℤ pos 1500000000

module _ (n z from : ℤ) (least : pos 1 ≤ℤ n) (most : n ≤ℤ pos 1000) (near : IsNear z) (at : IsNear from) where
  times_is : passed n ≡ n
  times_is = omega (arith, ints, least, most)

  apart_is : passed (passed z -ℤ passed from) ≡ z -ℤ from
  apart_is = omega (arith, ints, near.from, near.to, at.from, at.to)

  times_small : unsigned_abs n ≤ 1000
  times_small = omega (arith, ints, least, most)

  apart_small : unsigned_abs (z -ℤ from) ≤ 3000000000
  apart_small = omega (arith, ints, near.from, near.to, at.from, at.to)

  product_small : unsigned_abs (n *ℤ (z -ℤ from)) ≤ 3000000000000
  product_small = omega (arith, unsigned_abs-mul n (z -ℤ from), mul-le-mul times_small apart_small)

  pub apart_fits : FitsSigned w64 (passed z -ℤ passed from)
  apart_fits = omega (arith, ints, near.from, near.to, at.from, at.to)

  pub product_fits : FitsSigned w64 (passed n *ℤ passed (passed z -ℤ passed from))
  product_fits = rw (times_is, apart_is) (fits_signed_mul w64 n (z -ℤ from) 1000 3000000000 times_small apart_small (omega arith))

  product_is : passed (passed n *ℤ passed (passed z -ℤ passed from)) ≡ n *ℤ (z -ℤ from)
  product_is = rw (times_is, apart_is) (passed_is (n *ℤ (z -ℤ from)) (omega (arith, product_small)))

  pub line_is : (m r : ℤ) → m ≡ int_min (passed (passed n *ℤ passed (passed z -ℤ passed from))) (pos 1500000000) → r ≡ int_max (passed m) (neg_ℤ (pos 1500000000)) → passed r ≡ stretched_line from n z
  line_is m r e f =
      let low : m ≡ int_min (n *ℤ (z -ℤ from)) (pos 1500000000) = e ∙ ap (λ t. int_min t (pos 1500000000)) product_is in
      let same : passed m ≡ m = low_is (n *ℤ (z -ℤ from)) m product_small low in
      let high : r ≡ int_max m (neg_ℤ (pos 1500000000)) = f ∙ ap (λ t. int_max t (neg_ℤ (pos 1500000000))) same in
      high_is (n *ℤ (z -ℤ from)) m r low high ∙ (high ∙ ap (λ t. int_max t (neg_ℤ (pos 1500000000))) low)
    where
      low_is : (p m : ℤ) → unsigned_abs p ≤ 3000000000000 → m ≡ int_min p (pos 1500000000) → passed m ≡ m
      low_is p m small is = omega (arith, ints, clamps, small, is)

      high_is : (p m r : ℤ) → m ≡ int_min p (pos 1500000000) → r ≡ int_max m (neg_ℤ (pos 1500000000)) → passed r ≡ r
      high_is p m r low high = omega (arith, ints, clamps, low, high)

pub near_left : (b : Bounds) → FitsWithin (pos 1500000000) b → IsNear b.left
near_left b f = record { from = f.left; to = omega (arith, ints, f.wide, f.right) }

pub near_top : (b : Bounds) → FitsWithin (pos 1500000000) b → IsNear b.top
near_top b f = record { from = f.top; to = omega (arith, ints, f.high, f.bottom) }

pub near_right : (b : Bounds) → FitsWithin (pos 1500000000) b → IsNear b.right
near_right b f = record { from = omega (arith, ints, f.wide, f.left); to = f.right }

pub near_bottom : (b : Bounds) → FitsWithin (pos 1500000000) b → IsNear b.bottom
near_bottom b f = record { from = omega (arith, ints, f.high, f.top); to = f.bottom }

pub near_x : (s : Stretch) → IsNear s.x
near_x s = record { from = s.x_from; to = s.x_to }

pub near_y : (s : Stretch) → IsNear s.y
near_y s = record { from = s.y_from; to = s.y_to }

abbrev sides : ℤ → ℤ → ℤ → ℤ → Bounds
sides l t r b = record { left = l; top = t; right = r; bottom = b }

pub same_sides : (l t r b l' t' r' b' : ℤ) → l ≡ l' → t ≡ t' → r ≡ r' → b ≡ b' → sides l t r b ≡ sides l' t' r' b'
same_sides l t r b l' t' r' b' h k m n = cc

-- ---- a list of item boxes
-- the first item boxes were stretched
pub record AreStretchedTo (s : Stretch) (item_boxes : List Bounds) (count : ℕ) (wide : List Bounds) : Type 0 where
  pub many : length wide ≡ count
  pub fit : All (λ item_box. FitsWithin (pos 1500000000) item_box) wide
  pub each : (k : ℕ) (d : Bounds) → k < count → get_or wide k d ≡ stretched s (get_or item_boxes k d)

pub stretched_none : (s : Stretch) (item_boxes : List Bounds) → AreStretchedTo s item_boxes 0 []
stretched_none s item_boxes = record { many = refl; fit = λ k d lt. absurd (omega arith); each = λ k d lt. absurd (omega arith) }

pub stretched_more : (s : Stretch) (item_boxes : List Bounds) (count : ℕ) (wide : List Bounds) (item_box : Bounds) → AreStretchedTo s item_boxes count wide → FitsWithin (pos 1500000000) item_box
    → ((d : Bounds) → item_box ≡ stretched s (get_or item_boxes count d)) → AreStretchedTo s item_boxes (count + 1) (wide ++ item_box ∷ [])
stretched_more s item_boxes count wide item_box so_far fits is = record {
  many = length_push wide item_box ∙ ap (λ n. n + 1) so_far.many;
  fit = All-push (λ item_box. FitsWithin (pos 1500000000) item_box) wide item_box so_far.fit fits;
  each = λ k d lt. elim (cases_lt k count) [
    | inl less ↦ get_or_append_left wide (item_box ∷ []) d k (omega (arith, less, so_far.many)) ∙ so_far.each k d less
    | inr last ↦
        let here : count ≡ k = omega arith in
        let zero : k - length wide ≡ 0 = omega (arith, here, so_far.many) in
        let at : get_or (wide ++ item_box ∷ []) k d ≡ get_or (item_box ∷ []) (k - length wide) d = get_or-append_right wide (item_box ∷ []) (length wide) k d refl (omega (arith, here, so_far.many)) in
        at ∙ (ap (λ n. get_or (item_box ∷ []) n d) zero ∙ subst (λ (n : ℕ). item_box ≡ stretched s (get_or item_boxes n d)) here (is d))
  ];
}

pub stretched_all : (s : Stretch) (item_boxes : List Bounds) (count : ℕ) (wide : List Bounds) → count ≡ length item_boxes → AreStretchedTo s item_boxes count wide → AreSpread item_boxes wide
stretched_all s item_boxes count wide all so_far = record {
  many = so_far.many ∙ all;
  fit = so_far.fit;
  meet = λ i j d hi hj m.
      subst (λ (b : Bounds). BoxesMeet b (get_or wide j d)) (sym (so_far.each i d (omega arith)))
      (subst (BoxesMeet (stretched s (get_or item_boxes i d))) (sym (so_far.each j d (omega arith))) (stretched_meet s (get_or item_boxes i d) (get_or item_boxes j d) m));
}
