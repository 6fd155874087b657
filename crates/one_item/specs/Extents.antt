-- The bounds of parts: the least box along the axes that holds the bounds of each of them.
use Rattle.std.specs.Prelude.{◌≡◌, List, [], ◌∷◌, Option, None, Some}
use Rattle.geo_seg.specs.declared.boxes.Bounds.{Bounds}
use Rattle.geo_seg.specs.Boxes.{IsPartOf}
use Rattle.geo_seg.specs.Cores.{IsBoundsOf}
use Rattle.one_item.specs.declared.parts.Part.{Part}

-- the bounds of the part lie in the box
pub record LiesIn (box : Bounds) (part : Part) : Type 0 where
  pub bounds : Bounds
  pub own : IsBoundsOf part.shape bounds
  pub inside : IsPartOf bounds box

-- the bounds of each part lie in the box
abbrev pub AllLieIn : Bounds → List Part → Type 0
AllLieIn box [] = Unit {0}
AllLieIn box (part ∷ parts) = LiesIn box part × AllLieIn box parts

-- the box holds the bounds of all parts, and lies in each box that does
pub record IsLeastAround (parts : List Part) (box : Bounds) : Type 0 where
  pub holds : AllLieIn box parts
  pub least : (other : Bounds) → AllLieIn other parts → IsPartOf box other

-- there is a box exactly where there are parts, and it is the least one around them
abbrev pub AreBoundsOf : List Part → Option Bounds → Type 0
AreBoundsOf [] found = found ≡ None
AreBoundsOf (part ∷ parts) None = ⊥
AreBoundsOf (part ∷ parts) (Some box) = IsLeastAround (part ∷ parts) box
