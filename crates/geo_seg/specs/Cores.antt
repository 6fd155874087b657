-- The points of a core: of a segment those on it, of a polygon those inside it or on its edges.
use Rattle.std.specs.Prelude.{◌≡◌}
use Rattle.geo_seg.specs.declared.shapes.Core.{Core}
use Rattle.geo_seg.specs.declared.shapes.Core.TheVariants.{Line, Area}
use Rattle.geo_seg.specs.declared.shapes.Shape.{Shape}
use Rattle.geo_seg.specs.declared.boxes.Bounds.{Bounds}
use Rattle.geo_seg.specs.Points.{RationalPoint, IsOn}
use Rattle.geo_seg.specs.Inside.{IsInside}
use Rattle.geo_seg.specs.Boxes.{IsLeastBox, widened}

abbrev pub IsPointOf : Core → RationalPoint → Type 0
IsPointOf (Line s) p = IsOn s p
IsPointOf (Area corners) p = IsInside corners p

-- b is the least box that holds the core of the shape, widened on each side by its radius
pub record IsBoundsOf (s : Shape) (b : Bounds) : Type 0 where
  pub core_box : Bounds
  pub least : IsLeastBox (IsPointOf s.core) core_box
  pub wider : b ≡ widened core_box s.radius
