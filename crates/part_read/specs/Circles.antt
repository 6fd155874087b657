-- The radius of a circle in whole nanometres.
use Rattle.std.specs.Prelude.{ℕ, zero, suc, ◌+◌, ◌*◌, nat_le, ℤ, pos, ◌-ℤ◌, unsigned_abs, if◌then◌else◌}
use Rattle.part_read.specs.declared.numbers.RawPoint.{RawPoint}

-- the greatest whole number whose square is not above m
unfoldable pub root : ℕ → ℕ
root zero = 0
root (suc m) = let r = root m in if nat_le (suc r * suc r) (suc m) then suc r else r

-- the product of a number with itself
abbrev pub squared : ℤ → ℕ
squared z = unsigned_abs z * unsigned_abs z

-- the square of the distance of two raw points
abbrev pub square_between : RawPoint → RawPoint → ℕ
square_between a b = squared (b.x -ℤ a.x) + squared (b.y -ℤ a.y)

-- the square of the distance of two raw points that are read is at most this
abbrev pub most_square : ℕ
most_square = 8000000000000 * 1000000000000

-- a radius is at most this
abbrev pub most_radius : ℕ
most_radius = 3000000000000

-- the radius of the circle around a centre through an end
unfoldable pub radius_between : RawPoint → RawPoint → ℤ
radius_between center end = pos (root (square_between center end))
