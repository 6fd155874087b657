-- What a polygon keeps: its corners, and boxes.
use Rattle.std.specs.Prelude.{◌≤◌, List, length}
use Rattle.geo_seg.specs.declared.points.Point.{Point}
use Rattle.geo_seg.specs.declared.polygon.Outline.{Outline}
use Rattle.geo_seg.specs.declared.polygon.Outline.TheVariants.{Plain, Runs}
use Rattle.geo_seg.specs.RunBoxes.{HasRuns}

abbrev pub corners_of : Outline → List Point
corners_of (Plain corners) = corners.items
corners_of (Runs index) = index.value.corners.items

-- the boxes of its runs, where it keeps them
abbrev pub HasItsRuns : Outline → Type 0
HasItsRuns (Plain corners) = Unit {0}
HasItsRuns (Runs index) = HasRuns index.value

pub record IsKept (o : Outline) : Type 0 where
  pub enough : 3 ≤ length (corners_of o)
  pub runs : HasItsRuns o
