-- Points of a board, from numbers that count half nanometres.
use Rattle.std.specs.Prelude.{◌≡◌, ℤ, nat_le, unsigned_abs, Bool, true, ◌&&◌, Option}
use Rattle.std.proofs.lemmas.Bool.{leb-true}
use Rattle.int_algebra.proofs.Tested.{front, back}
use Rattle.geo_seg.specs.Ranges.{IsCoordinate}
use Rattle.geo_seg.specs.declared.points.Point.{Point}
use Rattle.part_read.specs.declared.numbers.RawPoint.{RawPoint}
use Rattle.part_read.specs.OnBoard.{tested}

-- the number is a coordinate: at most 500 mm from 0
abbrev pub is_near_half : ℤ → Bool
is_near_half z = nat_le (unsigned_abs z) 1000000000

-- a number that passes the test is a coordinate
pub half_in_range : (z : ℤ) → is_near_half z ≡ true → IsCoordinate z
half_in_range z h = leb-true (unsigned_abs z) 1000000000 h

-- both numbers of the raw point are coordinates
abbrev pub fits_half : RawPoint → Bool
fits_half s = is_near_half s.x && is_near_half s.y

-- the point at a raw point that lies on the board
abbrev pub half_point_at : (s : RawPoint) → fits_half s ≡ true → Point
half_point_at s fits = record { x = s.x; y = s.y; x_in_range = half_in_range s.x (front _ _ fits); y_in_range = half_in_range s.y (back _ _ fits) }

-- the point at a raw point, if it lies on the board
abbrev pub half_point : RawPoint → Option Point
half_point s = tested (fits_half s) (half_point_at s)
