-- How large coordinates and their differences are, in half nanometres.
use Rattle.std.specs.Prelude.{ℤ, ◌≤◌, unsigned_abs}

-- a coordinate of a point
abbrev pub IsCoordinate : ℤ → Type 0
IsCoordinate c = unsigned_abs c ≤ 1000000000

-- the difference of two coordinates
abbrev pub IsOffset : ℤ → Type 0
IsOffset c = unsigned_abs c ≤ 2000000000
