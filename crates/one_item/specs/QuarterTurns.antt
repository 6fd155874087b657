-- Quarter turns of points, counterclockwise on a screen, where y grows downward.
use Rattle.std.specs.Prelude.{ℕ, ℤ, neg_ℤ, ◌==◌, if◌then◌else◌}

-- the point after so many quarter turns about 0, of which there are at most three
abbrev pub turned : ℤ → ℤ → ℕ → ℤ × ℤ
turned x y quarter =
    if quarter == 0 then (x, y)
    else if quarter == 1 then (y, neg_ℤ x)
    else if quarter == 2 then (neg_ℤ x, neg_ℤ y)
    else (neg_ℤ y, x)
