-- Items that are moved. Positions move by nanometres; shapes count half nanometres, so they move by the doubles.
use Rattle.std.specs.Prelude.{◌≡◌, ℤ, pos, ◌+ℤ◌, ◌*ℤ◌, Bool, ◌&&◌, List, Option, None, Some}
use Rattle.std.specs.List.{AllZip, list_all}
use Rattle.geo_seg.specs.Shifts.{IsShiftedShape, core_stays}
use Rattle.one_item.specs.declared.parts.Part.{Part}
use Rattle.one_item.specs.declared.item.Hole.{Hole}
use Rattle.one_item.specs.declared.item.What.{What}
use Rattle.one_item.specs.declared.item.What.TheVariants.{Edge, Area, Body}
use Rattle.one_item.specs.declared.item.Item.{Item}
use Rattle.one_item.specs.ItemParts.{parts_of}
use Rattle.one_item.specs.Positions.{is_near}

-- ---- shapes, moved by half nanometres
-- the second part is the first, moved
pub record IsShiftedPart (dx dy : ℤ) (part moved : Part) : Type 0 where
  pub layers : moved.layers ≡ part.layers
  pub shape : IsShiftedShape dx dy part.shape moved.shape

abbrev pub AreShifted : ℤ → ℤ → List Part → List Part → Type 0
AreShifted dx dy parts moved = AllZip (IsShiftedPart dx dy) parts moved

pub record IsShiftedHole (dx dy : ℤ) (hole moved : Hole) : Type 0 where
  pub shape : IsShiftedShape dx dy hole.shape moved.shape
  pub layers : moved.layers ≡ hole.layers
  pub plated : moved.plated ≡ hole.plated
  pub least : moved.least ≡ hole.least

abbrev pub HoleIsShifted : ℤ → ℤ → Option Hole → Option Hole → Type 0
HoleIsShifted dx dy None None = Unit {0}
HoleIsShifted dx dy None (Some moved) = ⊥
HoleIsShifted dx dy (Some hole) None = ⊥
HoleIsShifted dx dy (Some hole) (Some moved) = IsShiftedHole dx dy hole moved

-- the lines of an edge, the area of a rule area and the courtyards of a footprint move too
abbrev pub KindIsShifted : ℤ → ℤ → What → What → Type 0
KindIsShifted dx dy (Edge lines) moved = (others : List Part) × (moved ≡ Edge others) × AreShifted dx dy lines others
KindIsShifted dx dy (Area title bans shape) moved = (other : Part) × (moved ≡ Area title bans other) × IsShiftedPart dx dy shape other
KindIsShifted dx dy (Body reference front back on_back) moved =
    (fronts : List Part) × (backs : List Part) × (moved ≡ Body reference fronts backs on_back) × AreShifted dx dy front fronts × AreShifted dx dy back backs
KindIsShifted dx dy what moved = moved ≡ what

-- ---- items, moved by nanometres
pub record IsShiftedItem (dx dy : ℤ) (item moved : Item) : Type 0 where
  pub name : moved.name ≡ item.name
  pub unit : moved.unit ≡ item.unit
  pub net : moved.net ≡ item.net
  pub x : moved.x ≡ item.x +ℤ dx
  pub y : moved.y ≡ item.y +ℤ dy
  pub copper : AreShifted (pos 2 *ℤ dx) (pos 2 *ℤ dy) item.copper moved.copper
  pub hole : HoleIsShifted (pos 2 *ℤ dx) (pos 2 *ℤ dy) item.hole moved.hole
  pub local : moved.local ≡ item.local
  pub what : KindIsShifted (pos 2 *ℤ dx) (pos 2 *ℤ dy) item.what moved.what

-- moved, its position and all points of its shapes are on the board
abbrev pub item_stays : ℤ → ℤ → Item → Bool
item_stays dx dy item =
    is_near (item.x +ℤ dx) && is_near (item.y +ℤ dy) && list_all (λ part. core_stays (pos 2 *ℤ dx) (pos 2 *ℤ dy) part.shape.core) (parts_of item)
