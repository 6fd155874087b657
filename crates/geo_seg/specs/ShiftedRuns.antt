-- The boxes of runs of edges that are moved with them.
use Rattle.std.specs.Prelude.{ℤ, pos, neg_ℤ, if◌then◌else◌}
use Rattle.std.specs.Int.Signed.{lt_z}
use Rattle.geo_seg.specs.declared.points.Point.{Point}
use Rattle.geo_seg.specs.declared.frames.Frame.{Frame}
use Rattle.geo_seg.specs.Boxes.{FitsCore}
use Rattle.geo_seg.specs.PolygonCorners.{IsHeld}
use Rattle.geo_seg.specs.RunBoxes.{sides_of}
use Rattle.geo_seg.specs.Shifts.{IsShiftedPoint}

-- the nearest coordinate
unfoldable pub in_range_of : ℤ → ℤ
in_range_of z =
    if lt_z z (neg_ℤ (pos 1000000000)) then neg_ℤ (pos 1000000000)
    else if lt_z (pos 1000000000) z then pos 1000000000
    else z

-- what the first frame holds is held by the second, moved
pub record IsShiftedFrame (dx dy : ℤ) (f g : Frame) : Type 0 where
  pub holds : (p q : Point) → IsShiftedPoint dx dy p q → IsHeld (sides_of f) p → IsHeld (sides_of g) q
  pub fits : FitsCore (sides_of g)
