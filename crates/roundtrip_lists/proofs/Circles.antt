-- The end of a circle is not far from its centre.
use Rattle.std.proofs.Common.{ℕ, suc, ◌+◌, ◌*◌, ◌<◌, ◌≤◌, ◌-ℤ◌, unsigned_abs, arith}
use Rattle.part_read.specs.declared.numbers.RawPoint.{RawPoint}
use Rattle.part_read.specs.Circles.{root, square_between}
use Rattle.part_read.proofs.Roots.{root_is, root_most}

within : (a b r : ℕ) → a * a + b * b < suc r * suc r → (a ≤ suc r) × (b ≤ suc r)
within a b r h = (root_most a (suc r) (omega (arith, h)), root_most b (suc r) (omega (arith, h)))

pub end_within : (center end : RawPoint) (most : ℕ) → root (square_between center end) ≤ most → (unsigned_abs (end.x -ℤ center.x) ≤ most + 1) × (unsigned_abs (end.y -ℤ center.y) ≤ most + 1)
end_within center end most h =
    let r : ℕ = root (square_between center end) in
    let k = within (unsigned_abs (end.x -ℤ center.x)) (unsigned_abs (end.y -ℤ center.y)) r (root_is (square_between center end)).next in
    let a = k.0 in
    let b = k.1 in
    (omega (arith, a, h), omega (arith, b, h))
