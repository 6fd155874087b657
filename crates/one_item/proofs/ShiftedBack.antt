-- An item that is moved is moved back by the opposite move.
use Rattle.std.proofs.Common.{◌≡◌, sym, subst, refl, ℤ, pos, neg_ℤ, ◌+ℤ◌, ◌*ℤ◌, List, [], ◌∷◌, Option, None, Some, arith}
use Rattle.std.specs.List.{AllZip}
use Rattle.std.proofs.lemmas.Int.{ints}
use Rattle.geo_seg.specs.declared.points.Point.{Point}
use Rattle.geo_seg.specs.declared.shapes.Core.{Core}
use Rattle.geo_seg.specs.declared.shapes.Core.TheVariants.{Line, Area as Polygon}
use Rattle.geo_seg.specs.declared.shapes.Shape.{Shape}
use Rattle.geo_seg.specs.Shifts.{IsShiftedPoint, IsShiftedCore, IsShiftedShape}
use Rattle.one_item.specs.declared.parts.Part.{Part}
use Rattle.one_item.specs.declared.item.Hole.{Hole}
use Rattle.one_item.specs.declared.item.What.{What}
use Rattle.one_item.specs.declared.item.What.TheVariants.{Track, Via, Pad, Graphic, Fill, Edge, Area, Body, Note}
use Rattle.one_item.specs.declared.item.Item.{Item}
use Rattle.one_item.specs.ItemMoves.{IsShiftedPart, AreShifted, HoleIsShifted, KindIsShifted, IsShiftedItem}

back_by : (p q d : ℤ) → q ≡ p +ℤ d → p ≡ q +ℤ neg_ℤ d
back_by p q d e = omega (arith, ints)

twice : (d : ℤ) → neg_ℤ (pos 2 *ℤ d) ≡ pos 2 *ℤ neg_ℤ d
twice d = omega (arith, ints)

module _ (dx dy : ℤ) where
  point_back : (p q : Point) → IsShiftedPoint dx dy p q → IsShiftedPoint (neg_ℤ dx) (neg_ℤ dy) q p
  point_back p q h = record { x = back_by p.x q.x dx h.x; y = back_by p.y q.y dy h.y }

  points_back : (ps qs : List Point) → AllZip (IsShiftedPoint dx dy) ps qs → AllZip (IsShiftedPoint (neg_ℤ dx) (neg_ℤ dy)) qs ps
  points_back [] [] h = h
  points_back [] (q ∷ qs) h = absurd h
  points_back (p ∷ ps) [] h = absurd h
  points_back (p ∷ ps) (q ∷ qs) h = (point_back p q h.0, points_back ps qs h.1)

  core_back : (c d : Core) → IsShiftedCore dx dy c d → IsShiftedCore (neg_ℤ dx) (neg_ℤ dy) d c
  core_back (Line s) (Line t) h = (point_back s.a t.a h.0, point_back s.b t.b h.1)
  core_back (Line s) (Polygon qs) h = absurd h
  core_back (Polygon ps) (Line t) h = absurd h
  core_back (Polygon ps) (Polygon qs) h = points_back ps qs h

  shape_back : (s t : Shape) → IsShiftedShape dx dy s t → IsShiftedShape (neg_ℤ dx) (neg_ℤ dy) t s
  shape_back s t h = record { core = core_back s.core t.core h.core; radius = sym h.radius }

  part_back : (p q : Part) → IsShiftedPart dx dy p q → IsShiftedPart (neg_ℤ dx) (neg_ℤ dy) q p
  part_back p q h = record { layers = sym h.layers; shape = shape_back p.shape q.shape h.shape }

  parts_back : (ps qs : List Part) → AreShifted dx dy ps qs → AreShifted (neg_ℤ dx) (neg_ℤ dy) qs ps
  parts_back [] [] h = h
  parts_back [] (q ∷ qs) h = absurd h
  parts_back (p ∷ ps) [] h = absurd h
  parts_back (p ∷ ps) (q ∷ qs) h = (part_back p q h.0, parts_back ps qs h.1)

  hole_back : (a b : Option Hole) → HoleIsShifted dx dy a b → HoleIsShifted (neg_ℤ dx) (neg_ℤ dy) b a
  hole_back None None h = h
  hole_back None (Some b) h = absurd h
  hole_back (Some a) None h = absurd h
  hole_back (Some a) (Some b) h = record { shape = shape_back a.shape b.shape h.shape; layers = sym h.layers; plated = sym h.plated; least = sym h.least }

  kind_back : (w v : What) → KindIsShifted dx dy w v → KindIsShifted (neg_ℤ dx) (neg_ℤ dy) v w
  kind_back (Track a) v h = subst (λ (k : What). KindIsShifted (neg_ℤ dx) (neg_ℤ dy) k (Track a)) (sym h) refl
  kind_back (Via a b c d) v h = subst (λ (k : What). KindIsShifted (neg_ℤ dx) (neg_ℤ dy) k (Via a b c d)) (sym h) refl
  kind_back (Pad a b) v h = subst (λ (k : What). KindIsShifted (neg_ℤ dx) (neg_ℤ dy) k (Pad a b)) (sym h) refl
  kind_back Graphic v h = subst (λ (k : What). KindIsShifted (neg_ℤ dx) (neg_ℤ dy) k Graphic) (sym h) refl
  kind_back Fill v h = subst (λ (k : What). KindIsShifted (neg_ℤ dx) (neg_ℤ dy) k Fill) (sym h) refl
  kind_back (Note a b) v h = subst (λ (k : What). KindIsShifted (neg_ℤ dx) (neg_ℤ dy) k (Note a b)) (sym h) refl
  kind_back (Edge lines) v h = subst (λ (k : What). KindIsShifted (neg_ℤ dx) (neg_ℤ dy) k (Edge lines)) (sym h.1) (lines, refl, parts_back lines h.0 h.2)
  kind_back (Area t b s) v h = subst (λ (k : What). KindIsShifted (neg_ℤ dx) (neg_ℤ dy) k (Area t b s)) (sym h.1) (s, refl, part_back s h.0 h.2)
  kind_back (Body r f b o) v h = subst (λ (k : What). KindIsShifted (neg_ℤ dx) (neg_ℤ dy) k (Body r f b o)) (sym h.2) (f, b, refl, parts_back f h.0 h.3, parts_back b h.1 h.4)

pub item_back : (dx dy : ℤ) (i j : Item) → IsShiftedItem dx dy i j → IsShiftedItem (neg_ℤ dx) (neg_ℤ dy) j i
item_back dx dy i j h = record {
  name = sym h.name;
  unit = sym h.unit;
  net = sym h.net;
  x = back_by i.x j.x dx h.x;
  y = back_by i.y j.y dy h.y;
  copper = subst (λ (d : ℤ). AreShifted d (pos 2 *ℤ neg_ℤ dy) j.copper i.copper) (twice dx) (subst (λ (e : ℤ). AreShifted (neg_ℤ (pos 2 *ℤ dx)) e j.copper i.copper) (twice dy) (parts_back (pos 2 *ℤ dx) (pos 2 *ℤ dy) i.copper j.copper h.copper));
  hole = subst (λ (d : ℤ). HoleIsShifted d (pos 2 *ℤ neg_ℤ dy) j.hole i.hole) (twice dx) (subst (λ (e : ℤ). HoleIsShifted (neg_ℤ (pos 2 *ℤ dx)) e j.hole i.hole) (twice dy) (hole_back (pos 2 *ℤ dx) (pos 2 *ℤ dy) i.hole j.hole h.hole));
  local = sym h.local;
  what = subst (λ (d : ℤ). KindIsShifted d (pos 2 *ℤ neg_ℤ dy) j.what i.what) (twice dx) (subst (λ (e : ℤ). KindIsShifted (neg_ℤ (pos 2 *ℤ dx)) e j.what i.what) (twice dy) (kind_back (pos 2 *ℤ dx) (pos 2 *ℤ dy) i.what j.what h.what));
}
