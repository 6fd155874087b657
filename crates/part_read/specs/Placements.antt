-- How the parts of a footprint and of a custom pad stand on a board. Raw points are plain numbers in nanometres, on the board or off it;
-- they are turned and moved first, and tested for the board last.
use Rattle.std.specs.Prelude.{ℕ, ℤ, pos, ◌+ℤ◌, ◌≤◌, unsigned_abs, List, map, Option}
use Rattle.geo_seg.specs.declared.points.Point.{Point}
use Rattle.one_item.specs.QuarterTurns.{turned}
use Rattle.part_read.specs.declared.numbers.RawPoint.{RawPoint}
use Rattle.part_read.specs.declared.placements.Placement.{Placement}
use Rattle.part_read.specs.There.{all_there}
use Rattle.part_read.specs.OnBoard.{tested, fits_board, point_at}

-- the most nanometres that a number of a text is from 0
abbrev pub most_read : ℕ
most_read = 1000000000000

-- the greatest size that is read, in nanometres
abbrev pub greatest_size : ℤ
greatest_size = pos most_read

-- no number of the raw point is further from 0
pub record IsRawPointWithin (most : ℕ) (s : RawPoint) : Type 0 where
  pub x : unsigned_abs s.x ≤ most
  pub y : unsigned_abs s.y ≤ most

-- a raw point as it is read of a text
abbrev pub IsReadRawPoint : RawPoint → Type 0
IsReadRawPoint s = IsRawPointWithin most_read s

-- where something stands: no further from 0 than the sum of three raw points that are read, those of a footprint, of its pad, and of the
-- offset of that pad's copper
abbrev pub IsPlacementRawPoint : RawPoint → Type 0
IsPlacementRawPoint s = IsRawPointWithin 3000000000000 s

-- the raw point turned about 0 by quarter turns
abbrev pub turned_raw_point : ℕ → RawPoint → RawPoint
turned_raw_point quarter s = let p = turned s.x s.y quarter in record { x = p.0; y = p.1 }

-- where a raw point of something that stands so is on the board: turned by quarter turns, and then moved
abbrev pub stood : Placement → RawPoint → RawPoint
stood placement s = let t = turned_raw_point placement.quarter s in record { x = placement.at.x +ℤ t.x; y = placement.at.y +ℤ t.y }

-- the point there, if it lies on the board
abbrev pub point_stood : Placement → RawPoint → Option Point
point_stood placement s = let t = stood placement s in tested (fits_board t) (point_at t)

-- the points of all raw points, if they all lie on the board
abbrev pub points_stood : Placement → List RawPoint → Option (List Point)
points_stood placement raw_points = all_there (map (point_stood placement) raw_points)
