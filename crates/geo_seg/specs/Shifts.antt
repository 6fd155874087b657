-- Shapes that are moved as a whole, in half nanometres.
use Rattle.std.specs.Prelude.{◌≡◌, ℤ, pos, neg_ℤ, ◌+ℤ◌, Bool, ◌&&◌}
use Rattle.std.specs.Int.Signed.{le_z}
use Rattle.std.specs.List.{AllZip, list_all}
use Rattle.geo_seg.specs.declared.points.Point.{Point}
use Rattle.geo_seg.specs.declared.shapes.Core.{Core}
use Rattle.geo_seg.specs.declared.shapes.Core.TheVariants.{Line, Area}
use Rattle.geo_seg.specs.declared.shapes.Shape.{Shape}

-- q is p moved by dx and dy
pub record IsShiftedPoint (dx dy : ℤ) (p q : Point) : Type 0 where
  pub x : q.x ≡ p.x +ℤ dx
  pub y : q.y ≡ p.y +ℤ dy

-- the second core is the first, each point of it moved by dx and dy
abbrev pub IsShiftedCore : ℤ → ℤ → Core → Core → Type 0
IsShiftedCore dx dy (Line s) (Line t) = IsShiftedPoint dx dy s.a t.a × IsShiftedPoint dx dy s.b t.b
IsShiftedCore dx dy (Line s) (Area others) = ⊥
IsShiftedCore dx dy (Area corners) (Line t) = ⊥
IsShiftedCore dx dy (Area corners) (Area others) = AllZip (IsShiftedPoint dx dy) corners others

pub record IsShiftedShape (dx dy : ℤ) (s t : Shape) : Type 0 where
  pub core : IsShiftedCore dx dy s.core t.core
  pub radius : t.radius ≡ s.radius

-- ---- what stays in range
abbrev pub is_coordinate : ℤ → Bool
is_coordinate z = le_z (neg_ℤ (pos 1000000000)) z && le_z z (pos 1000000000)

-- the point, moved by dx and dy, is at most 1,000,000,000 half nanometres from 0 in x and in y
abbrev pub point_stays : ℤ → ℤ → Point → Bool
point_stays dx dy p = is_coordinate (p.x +ℤ dx) && is_coordinate (p.y +ℤ dy)

-- so is each end of the segment, or each corner of the polygon
abbrev pub core_stays : ℤ → ℤ → Core → Bool
core_stays dx dy (Line s) = point_stays dx dy s.a && point_stays dx dy s.b
core_stays dx dy (Area corners) = list_all (point_stays dx dy) corners
