-- Boxes along the axes. As on a screen y grows downward, so the top of a box is its least y.
use Rattle.std.specs.Prelude.{pos, ℤ, neg_ℤ, ◌+ℤ◌, ◌-ℤ◌, ◌*ℤ◌, ◌≤ℤ◌, Bool, ◌&&◌, int_le, ◌⊎◌}
use Rattle.geo_seg.specs.declared.boxes.Bounds.{Bounds}
use Rattle.geo_seg.specs.Points.{RationalPoint}

-- the rational point lies in the box, its sides included
pub record IsInBox (b : Bounds) (p : RationalPoint) : Type 0 where
  pub left : (p.w *ℤ b.left) ≤ℤ p.x
  pub top : (p.w *ℤ b.top) ≤ℤ p.y
  pub right : p.x ≤ℤ (p.w *ℤ b.right)
  pub bottom : p.y ≤ℤ (p.w *ℤ b.bottom)

-- the box b lies in the box c
pub record IsPartOf (b c : Bounds) : Type 0 where
  pub left : c.left ≤ℤ b.left
  pub top : c.top ≤ℤ b.top
  pub right : b.right ≤ℤ c.right
  pub bottom : b.bottom ≤ℤ c.bottom

-- b holds all points of P, and lies in each box that does
pub record IsLeastBox (P : RationalPoint → Type 0) (b : Bounds) : Type 0 where
  pub holds : (p : RationalPoint) → P p → IsInBox b p
  pub least : (c : Bounds) → ((p : RationalPoint) → P p → IsInBox c p) → IsPartOf b c

-- the box with each side moved out by r
abbrev pub widened : Bounds → ℤ → Bounds
widened b r = record { left = b.left -ℤ r; top = b.top -ℤ r; right = b.right +ℤ r; bottom = b.bottom +ℤ r }

-- the boxes share a point; their sides belong to them
pub record BoxesMeet (b c : Bounds) : Type 0 where
  pub left : b.left ≤ℤ c.right
  pub right : c.left ≤ℤ b.right
  pub top : b.top ≤ℤ c.bottom
  pub bottom : c.top ≤ℤ b.bottom

-- the same as a test
abbrev pub do_boxes_meet : Bounds → Bounds → Bool
do_boxes_meet b c = (int_le b.left c.right && int_le c.left b.right) && (int_le b.top c.bottom && int_le c.top b.bottom)

-- the boxes meet where the first has each side moved out by r
abbrev pub are_near : ℤ → Bounds → Bounds → Bool
are_near r b c = do_boxes_meet (widened b r) c

-- r is the least box that holds both b and c
pub record IsUnion (b c r : Bounds) : Type 0 where
  pub first : IsPartOf b r
  pub second : IsPartOf c r
  pub least : (other : Bounds) → IsPartOf b other → IsPartOf c other → IsPartOf r other

-- the box is not empty, and reaches no farther than `limit` from the axes
pub record FitsWithin (limit : ℤ) (b : Bounds) : Type 0 where
  pub wide : b.left ≤ℤ b.right
  pub high : b.top ≤ℤ b.bottom
  pub left : neg_ℤ limit ≤ℤ b.left
  pub top : neg_ℤ limit ≤ℤ b.top
  pub right : b.right ≤ℤ limit
  pub bottom : b.bottom ≤ℤ limit

-- the box of a core: its points have coordinates
abbrev pub FitsCore : Bounds → Type 0
FitsCore b = FitsWithin (pos 1000000000) b

-- the box of a shape, whose core is made wider by up to 500 mm
abbrev pub FitsShape : Bounds → Type 0
FitsShape b = FitsWithin (pos 1500000000) b

-- the box of an entry of an index, which may reach as far again
abbrev pub FitsIndex : Bounds → Type 0
FitsIndex b = FitsWithin (pos 2000000000) b

-- the range from low to high ends at least d before the other begins, or begins as far after it
abbrev pub IsClearOf : ℤ → ℤ → ℤ → ℤ → ℤ → Type 0
IsClearOf low high other_low other_high d = (high +ℤ d) ≤ℤ other_low ⊎ (other_high +ℤ d) ≤ℤ low

-- the boxes are at least d apart in x or in y
abbrev pub AreClear : Bounds → Bounds → ℤ → Type 0
AreClear b c d = IsClearOf b.left b.right c.left c.right d ⊎ IsClearOf b.top b.bottom c.top c.bottom d
