-- The box that a polygon keeps beside its corners.
use Rattle.std.specs.Prelude.{◌≡◌, ◌≤ℤ◌, List, [], ◌∷◌, ◌⊎◌}
use Rattle.geo_seg.specs.declared.points.Point.{Point}
use Rattle.geo_seg.specs.declared.boxes.Bounds.{Bounds}

-- P holds of each corner
abbrev pub EachCorner : (Point → Type 0) → List Point → Type 0
EachCorner P [] = Unit {0}
EachCorner P (c ∷ cs) = P c × EachCorner P cs

-- P holds of some corner
abbrev pub SomeCorner : (Point → Type 0) → List Point → Type 0
SomeCorner P [] = ⊥
SomeCorner P (c ∷ cs) = P c ⊎ SomeCorner P cs

-- the corner lies in the box
pub record IsHeld (b : Bounds) (c : Point) : Type 0 where
  pub left : b.left ≤ℤ c.x
  pub top : b.top ≤ℤ c.y
  pub right : c.x ≤ℤ b.right
  pub bottom : c.y ≤ℤ b.bottom

-- the box holds all corners, and each of its sides has one
pub record IsCornerBox (cs : List Point) (b : Bounds) : Type 0 where
  pub holds : EachCorner (IsHeld b) cs
  pub left : SomeCorner (λ c. c.x ≡ b.left) cs
  pub top : SomeCorner (λ c. c.y ≡ b.top) cs
  pub right : SomeCorner (λ c. c.x ≡ b.right) cs
  pub bottom : SomeCorner (λ c. c.y ≡ b.bottom) cs
