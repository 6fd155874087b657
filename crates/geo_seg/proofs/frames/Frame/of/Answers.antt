use Rattle.std.proofs.Common.{◌≡◌, ◌≤◌, ℤ, unsigned_abs, w32, w64, to_z, of_z, arith}
use Rattle.std.proofs.lemmas.Int.{ints}
use Rattle.geo_seg.specs.declared.boxes.Bounds.{Bounds}
use Rattle.geo_seg.proofs.Passed.{left_in_range, top_in_range, right_in_range, bottom_in_range}
use Rattle.geo_seg.proofs.frames.Frame.of.Goals as goal

abbrev sides : ℤ → ℤ → ℤ → ℤ → Bounds
sides l t r b = record { left = l; top = t; right = r; bottom = b }

same_sides : (l t r b l' t' r' b' : ℤ) → l ≡ l' → t ≡ t' → r ≡ r' → b ≡ b' → sides l t r b ≡ sides l' t' r' b'
same_sides l t r b l' t' r' b' h k m n = cc

narrowed : (z : ℤ) → unsigned_abs z ≤ 1000000000 → to_z w32 (of_z w32 (to_z w64 (of_z w64 z))) ≡ z
narrowed z h = omega (arith, ints)

pub returns : goal.returns
returns c =
    let b = c.args.bounds in let f = c.requires in
    same_sides _ _ _ _ _ _ _ _ (narrowed b.left (left_in_range 1000000000 b f)) (narrowed b.top (top_in_range 1000000000 b f)) (narrowed b.right (right_in_range 1000000000 b f)) (narrowed b.bottom (bottom_in_range 1000000000 b f))
