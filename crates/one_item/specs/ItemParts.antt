-- The parts of an item: its copper, its hole, and by its kind the lines of an edge, the area of a rule area, or the
-- courtyards of a footprint, those of the front first.
use Rattle.std.specs.Prelude.{◌≤◌, List, [], ◌∷◌, ◌++◌, length, Option, None, Some}
use Rattle.geo_seg.specs.declared.shapes.Core.{Core}
use Rattle.geo_seg.specs.declared.shapes.Core.TheVariants.{Line, Area as Polygon}
use Rattle.one_item.specs.declared.parts.Part.{Part}
use Rattle.one_item.specs.declared.item.Hole.{Hole}
use Rattle.one_item.specs.declared.item.What.{What}
use Rattle.one_item.specs.declared.item.What.TheVariants.{Edge, Area, Body}
use Rattle.one_item.specs.declared.item.Item.{Item}

-- the hole as a part: its shape, on its layers
abbrev pub hole_parts : Option Hole → List Part
hole_parts None = []
hole_parts (Some hole) = record { layers = hole.layers; shape = hole.shape } ∷ []

-- the parts that the kind gives
abbrev pub kind_parts : What → List Part
kind_parts (Edge lines) = lines
kind_parts (Area title bans shape) = shape ∷ []
kind_parts (Body reference front back on_back) = front ++ back
kind_parts _ = []

abbrev pub parts_of : Item → List Part
parts_of item = item.copper ++ (hole_parts item.hole ++ kind_parts item.what)

-- ---- points
-- a segment has points, and so has a polygon with corners
abbrev pub HasPoints : Core → Type 0
HasPoints (Line s) = Unit {0}
HasPoints (Polygon corners) = 3 ≤ length corners

-- the first part, if there is one, has points
abbrev pub FirstHasPoints : List Part → Type 0
FirstHasPoints [] = Unit {0}
FirstHasPoints (part ∷ parts) = HasPoints part.shape.core
