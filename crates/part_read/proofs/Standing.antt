-- Where raw points stand: sums of numbers that are small enough.
use Rattle.std.proofs.Common.{◌≡◌, ◌∙◌, ap, sym, subst, ℕ, ◌+◌, ◌≤◌, ℤ, neg_ℤ, ◌+ℤ◌, unsigned_abs, Bool, true, false, cond, eqb, arith}
use Rattle.std.proofs.lemmas.Int.{ints}
use Rattle.int_algebra.proofs.Scalars.{passed, passed_is}
use Rattle.one_item.specs.QuarterTurns.{turned}
use Rattle.part_read.specs.declared.numbers.RawPoint.{RawPoint}
use Rattle.part_read.specs.declared.placements.Placement.{Placement}
use Rattle.part_read.specs.Placements.{IsRawPointWithin, IsReadRawPoint, IsPlacementRawPoint, stood}

by_tests : (a b c : Bool) (x y : ℤ) (most : ℕ) → unsigned_abs x ≤ most → unsigned_abs y ≤ most
    → let t = cond {A = ℤ × ℤ} a (x, y) (cond b (y, neg_ℤ x) (cond c (neg_ℤ x, neg_ℤ y) (neg_ℤ y, x))) in (unsigned_abs t.0 ≤ most) × (unsigned_abs t.1 ≤ most)
by_tests true b c x y most h k = (h, k)
by_tests false true c x y most h k = (k, omega (arith, ints, h))
by_tests false false true x y most h k = (omega (arith, ints, h), omega (arith, ints, k))
by_tests false false false x y most h k = (omega (arith, ints, k), h)

pub turned_within : (x y : ℤ) (quarter most : ℕ) → unsigned_abs x ≤ most → unsigned_abs y ≤ most → (unsigned_abs (turned x y quarter).0 ≤ most) × (unsigned_abs (turned x y quarter).1 ≤ most)
turned_within x y quarter most h k = by_tests (eqb quarter 0) (eqb quarter 1) (eqb quarter 2) x y most h k

sum_within : (a b : ℤ) (m n : ℕ) → unsigned_abs a ≤ m → unsigned_abs b ≤ n → unsigned_abs (a +ℤ b) ≤ m + n
sum_within a b m n h k = omega (arith, ints, h, k)

sum_is : (a b : ℤ) → unsigned_abs a ≤ 3000000000000 → unsigned_abs b ≤ 1000000000000 → passed (passed a +ℤ passed b) ≡ a +ℤ b
sum_is a b h k =
    ap passed (ap (λ (z : ℤ). z +ℤ passed b) (passed_is a (omega (arith, h))) ∙ ap (λ (z : ℤ). a +ℤ z) (passed_is b (omega (arith, k))))
    ∙ passed_is (a +ℤ b) (let s = sum_within a b _ _ h k in omega (arith, s))

raw_point_is : (x y u v : ℤ) → x ≡ u → y ≡ v → record { x = x; y = y } ≡ (let s : RawPoint = record { x = u; y = v } in s)
raw_point_is x y u v h k = ap (λ (z : ℤ). let s : RawPoint = record { x = z; y = y } in s) h ∙ ap (λ (z : ℤ). let s : RawPoint = record { x = u; y = z } in s) k

module _ (placement : Placement) (raw_point : RawPoint) (t : ℤ × ℤ) (at : IsPlacementRawPoint placement.at) (near : IsReadRawPoint raw_point) (given : t ≡ turned (passed raw_point.x) (passed raw_point.y) placement.quarter) where
  e : t ≡ turned raw_point.x raw_point.y placement.quarter
  e =
      given ∙ ap (λ (z : ℤ). turned z (passed raw_point.y) placement.quarter) (passed_is raw_point.x (let h = near.x in omega (arith, h)))
      ∙ ap (λ (z : ℤ). turned raw_point.x z placement.quarter) (passed_is raw_point.y (let h = near.y in omega (arith, h)))

  pub in_x : unsigned_abs t.0 ≤ 1000000000000
  in_x = subst (λ (p : ℤ × ℤ). unsigned_abs p.0 ≤ 1000000000000) (sym e) (turned_within raw_point.x raw_point.y placement.quarter _ near.x near.y).0

  pub in_y : unsigned_abs t.1 ≤ 1000000000000
  in_y = subst (λ (p : ℤ × ℤ). unsigned_abs p.1 ≤ 1000000000000) (sym e) (turned_within raw_point.x raw_point.y placement.quarter _ near.x near.y).1

  pub stand_is : (let s : RawPoint = record { x = passed (passed placement.at.x +ℤ passed t.0); y = passed (passed placement.at.y +ℤ passed t.1) } in s) ≡ stood placement raw_point
  stand_is =
      raw_point_is _ _ _ _ (sum_is placement.at.x t.0 at.x in_x) (sum_is placement.at.y t.1 at.y in_y)
      ∙ ap (λ (p : ℤ × ℤ). let s : RawPoint = record { x = placement.at.x +ℤ p.0; y = placement.at.y +ℤ p.1 } in s) e

pub stood_within : (placement : Placement) (raw_point : RawPoint) (m n : ℕ) → IsRawPointWithin m placement.at → IsRawPointWithin n raw_point → IsRawPointWithin (m + n) (stood placement raw_point)
stood_within placement raw_point m n h k =
    let t = turned_within raw_point.x raw_point.y placement.quarter n k.x k.y in
    record { x = sum_within placement.at.x _ m n h.x t.0; y = sum_within placement.at.y _ m n h.y t.1 }
