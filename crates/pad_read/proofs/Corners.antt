-- Corners of boxes: sums of numbers that are small enough.
use Rattle.std.proofs.Common.{◌≡◌, ◌∙◌, ap, ℤ, pos, ◌+ℤ◌, ◌-ℤ◌, ◌*ℤ◌, ◌≤◌, unsigned_abs, arith}
use Rattle.std.proofs.lemmas.Int.{ints}
use Rattle.int_algebra.proofs.Scalars.{passed}
use Rattle.part_read.specs.declared.numbers.RawPoint.{RawPoint}
use Rattle.part_read.specs.Placements.{IsPlacementRawPoint}
use Rattle.pad_read.specs.declared.sizes.RoundedRect.{RoundedRect}
use Rattle.pad_read.specs.PadShapes.{IsSmall}

raw_point_is : (x y u v : ℤ) → x ≡ u → y ≡ v → (let s : RawPoint = record { x = x; y = y } in s) ≡ record { x = u; y = v }
raw_point_is x y u v h k = ap (λ (z : ℤ). let s : RawPoint = record { x = z; y = y } in s) h ∙ ap (λ (z : ℤ). let s : RawPoint = record { x = u; y = z } in s) k

less : (a c : ℤ) → unsigned_abs a ≤ 3000000000000 → unsigned_abs c ≤ 3000000000000 → passed (passed (pos 2 *ℤ passed a) -ℤ passed c) ≡ (pos 2 *ℤ a) -ℤ c
less a c h k = omega (arith, ints)

more : (a c : ℤ) → unsigned_abs a ≤ 3000000000000 → unsigned_abs c ≤ 3000000000000 → passed (passed (pos 2 *ℤ passed a) +ℤ passed c) ≡ (pos 2 *ℤ a) +ℤ c
more a c h k = omega (arith, ints)

module _ (at : RawPoint) (rounded_rect : RoundedRect) (near : IsPlacementRawPoint at) (small : IsSmall rounded_rect) where
  pub low_is : (let s : RawPoint = record { x = passed (passed (pos 2 *ℤ passed at.x) -ℤ passed rounded_rect.x); y = passed (passed (pos 2 *ℤ passed at.y) -ℤ passed rounded_rect.y) } in s)
      ≡ record { x = (pos 2 *ℤ at.x) -ℤ rounded_rect.x; y = (pos 2 *ℤ at.y) -ℤ rounded_rect.y }
  low_is = raw_point_is _ _ _ _ (less at.x rounded_rect.x near.x small.x) (less at.y rounded_rect.y near.y small.y)

  pub high_is : (let s : RawPoint = record { x = passed (passed (pos 2 *ℤ passed at.x) +ℤ passed rounded_rect.x); y = passed (passed (pos 2 *ℤ passed at.y) +ℤ passed rounded_rect.y) } in s)
      ≡ record { x = (pos 2 *ℤ at.x) +ℤ rounded_rect.x; y = (pos 2 *ℤ at.y) +ℤ rounded_rect.y }
  high_is = raw_point_is _ _ _ _ (more at.x rounded_rect.x near.x small.x) (more at.y rounded_rect.y near.y small.y)
