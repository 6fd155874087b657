-- An item that is moved by nothing is as it was.
use Rattle.std.proofs.Common.{◌≡◌, refl, sym, subst, ℤ, pos, ◌+ℤ◌, ◌*ℤ◌, List, [], ◌∷◌, Option, None, Some, arith}
use Rattle.std.specs.List.{AllZip}
use Rattle.std.proofs.lemmas.Int.{ints}
use Rattle.geo_seg.specs.declared.points.Point.{Point}
use Rattle.geo_seg.specs.declared.shapes.Core.{Core}
use Rattle.geo_seg.specs.declared.shapes.Core.TheVariants.{Line, Area as Polygon}
use Rattle.geo_seg.specs.Shifts.{IsShiftedPoint, IsShiftedCore}
use Rattle.one_item.specs.declared.parts.Part.{Part}
use Rattle.one_item.specs.declared.item.Hole.{Hole}
use Rattle.one_item.specs.declared.item.What.{What}
use Rattle.one_item.specs.declared.item.What.TheVariants.{Track, Via, Pad, Graphic, Fill, Edge, Area, Body, Note}
use Rattle.one_item.specs.declared.item.Item.{Item}
use Rattle.one_item.specs.ItemMoves.{IsShiftedPart, AreShifted, HoleIsShifted, KindIsShifted, IsShiftedItem}

zero_on : (z : ℤ) → z ≡ z +ℤ pos 0
zero_on z = omega (arith, ints)

point_rests : (p : Point) → IsShiftedPoint (pos 0) (pos 0) p p
point_rests p = record { x = zero_on p.x; y = zero_on p.y }

points_rest : (ps : List Point) → AllZip (IsShiftedPoint (pos 0) (pos 0)) ps ps
points_rest [] = tt
points_rest (p ∷ ps) = (point_rests p, points_rest ps)

core_rests : (c : Core) → IsShiftedCore (pos 0) (pos 0) c c
core_rests (Line s) = (point_rests s.a, point_rests s.b)
core_rests (Polygon ps) = points_rest ps

part_rests : (p : Part) → IsShiftedPart (pos 0) (pos 0) p p
part_rests p = record { layers = refl; shape = record { core = core_rests p.shape.core; radius = refl } }

parts_rest : (ps : List Part) → AreShifted (pos 0) (pos 0) ps ps
parts_rest [] = tt
parts_rest (p ∷ ps) = (part_rests p, parts_rest ps)

hole_rests : (h : Option Hole) → HoleIsShifted (pos 0) (pos 0) h h
hole_rests None = tt
hole_rests (Some h) = record { shape = record { core = core_rests h.shape.core; radius = refl }; layers = refl; plated = refl; least = refl }

kind_rests : (w : What) → KindIsShifted (pos 0) (pos 0) w w
kind_rests (Track a) = refl
kind_rests (Via a b c d) = refl
kind_rests (Pad a b) = refl
kind_rests Graphic = refl
kind_rests Fill = refl
kind_rests (Note a b) = refl
kind_rests (Edge lines) = (lines, refl, parts_rest lines)
kind_rests (Area t b s) = (s, refl, part_rests s)
kind_rests (Body r f b o) = (f, b, refl, parts_rest f, parts_rest b)

twice_zero : (pos 2 *ℤ pos 0) ≡ pos 0
twice_zero = omega (arith, ints)

pub item_rests : (i : Item) → IsShiftedItem (pos 0) (pos 0) i i
item_rests i = record {
  name = refl;
  unit = refl;
  net = refl;
  x = zero_on i.x;
  y = zero_on i.y;
  copper = subst (λ (d : ℤ). AreShifted d d i.copper i.copper) (sym twice_zero) (parts_rest i.copper);
  hole = subst (λ (d : ℤ). HoleIsShifted d d i.hole i.hole) (sym twice_zero) (hole_rests i.hole);
  local = refl;
  what = subst (λ (d : ℤ). KindIsShifted d d i.what i.what) (sym twice_zero) (kind_rests i.what);
}
