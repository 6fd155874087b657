-- An item that is moved gives one item.
use Rattle.std.proofs.Common.{◌≡◌, ◌∙◌, ap, sym, refl, ℤ, ◌*ℤ◌, pos, List, [], ◌∷◌, Option, None, Some}
use Rattle.std.specs.List.{AllZip}
use Rattle.geo_seg.specs.declared.points.Point.{Point}
use Rattle.geo_seg.specs.declared.shapes.Core.{Core}
use Rattle.geo_seg.specs.declared.shapes.Core.TheVariants.{Line, Area as Polygon}
use Rattle.geo_seg.specs.declared.shapes.Shape.{Shape}
use Rattle.geo_seg.specs.Shifts.{IsShiftedPoint, IsShiftedCore, IsShiftedShape}
use Rattle.copper_layers.specs.declared.set.LayerSet.{LayerSet}
use Rattle.one_item.specs.declared.parts.Part.{Part}
use Rattle.one_item.specs.declared.item.Hole.{Hole}
use Rattle.one_item.specs.declared.item.What.{What}
use Rattle.one_item.specs.declared.item.What.TheVariants.{Track, Via, Pad, Graphic, Fill, Edge, Area, Body, Note}
use Rattle.one_item.specs.declared.item.Item.{Item}
use Rattle.one_item.specs.ItemMoves.{IsShiftedPart, AreShifted, IsShiftedHole, HoleIsShifted, KindIsShifted, IsShiftedItem}
use Rattle.one_item.proofs.EqualItems.{point_is, shape_is, hole_is, item_is}

-- lists that stand in one way to a list are one where each element is
pub zip_once : {A B : Type 0} (R : A → B → Type 0) → ((a : A) (b c : B) → R a b → R a c → b ≡ c)
    → (ps : List A) (qs rs : List B) → AllZip R ps qs → AllZip R ps rs → qs ≡ rs
zip_once R once [] [] [] h k = refl
zip_once R once [] [] (b ∷ rs) h k = absurd k
zip_once R once [] (a ∷ qs) rs h k = absurd h
zip_once R once (p ∷ ps) [] rs h k = absurd h
zip_once R once (p ∷ ps) (a ∷ qs) [] h k = absurd k
zip_once R once (p ∷ ps) (a ∷ qs) (b ∷ rs) h k =
    ap (λ x. x ∷ qs) (once p a b h.0 k.0) ∙ ap (λ xs. b ∷ xs) (zip_once R once ps qs rs h.1 k.1)

module _ (dx dy : ℤ) where
  point_once : (p a b : Point) → IsShiftedPoint dx dy p a → IsShiftedPoint dx dy p b → a ≡ b
  point_once p a b h k = point_is a b (h.x ∙ sym k.x) (h.y ∙ sym k.y)

  points_once : (ps qs rs : List Point) → AllZip (IsShiftedPoint dx dy) ps qs → AllZip (IsShiftedPoint dx dy) ps rs → qs ≡ rs
  points_once = zip_once (IsShiftedPoint dx dy) point_once

  core_once : (c a b : Core) → IsShiftedCore dx dy c a → IsShiftedCore dx dy c b → a ≡ b
  core_once (Line s) (Line t) (Line u) h k =
      ap (λ (p : Point). Line (record { a = p; b = t.b })) (point_once s.a t.a u.a h.0 k.0) ∙ ap (λ (p : Point). Line (record { a = u.a; b = p })) (point_once s.b t.b u.b h.1 k.1)
  core_once (Line s) (Line t) (Polygon qs) h k = absurd k
  core_once (Line s) (Polygon qs) b h k = absurd h
  core_once (Polygon ps) (Line t) b h k = absurd h
  core_once (Polygon ps) (Polygon qs) (Line t) h k = absurd k
  core_once (Polygon ps) (Polygon qs) (Polygon rs) h k = ap Polygon (points_once ps qs rs h k)

  shape_once : (s a b : Shape) → IsShiftedShape dx dy s a → IsShiftedShape dx dy s b → a ≡ b
  shape_once s a b h k = shape_is a b (core_once s.core a.core b.core h.core k.core) (h.radius ∙ sym k.radius)

  part_once : (p a b : Part) → IsShiftedPart dx dy p a → IsShiftedPart dx dy p b → a ≡ b
  part_once p a b h k =
      ap (λ (l : LayerSet). record a { layers = l }) (h.layers ∙ sym k.layers) ∙ ap (λ (s : Shape). record b { shape = s }) (shape_once p.shape a.shape b.shape h.shape k.shape)

  parts_once : (ps qs rs : List Part) → AreShifted dx dy ps qs → AreShifted dx dy ps rs → qs ≡ rs
  parts_once = zip_once (IsShiftedPart dx dy) part_once

  hole_once : (h a b : Hole) → IsShiftedHole dx dy h a → IsShiftedHole dx dy h b → a ≡ b
  hole_once h a b p q = hole_is a b (shape_once h.shape a.shape b.shape p.shape q.shape) (p.layers ∙ sym q.layers) (p.plated ∙ sym q.plated) (p.least ∙ sym q.least)

  holes_once : (h a b : Option Hole) → HoleIsShifted dx dy h a → HoleIsShifted dx dy h b → a ≡ b
  holes_once None None None p q = refl
  holes_once None None (Some b) p q = absurd q
  holes_once None (Some a) b p q = absurd p
  holes_once (Some h) None b p q = absurd p
  holes_once (Some h) (Some a) None p q = absurd q
  holes_once (Some h) (Some a) (Some b) p q = ap Some (hole_once h a b p q)

  kind_once : (w a b : What) → KindIsShifted dx dy w a → KindIsShifted dx dy w b → a ≡ b
  kind_once (Track width) a b h k = h ∙ sym k
  kind_once (Via size drill micro blind) a b h k = h ∙ sym k
  kind_once (Pad number reference) a b h k = h ∙ sym k
  kind_once Graphic a b h k = h ∙ sym k
  kind_once Fill a b h k = h ∙ sym k
  kind_once (Note about layer) a b h k = h ∙ sym k
  kind_once (Edge lines) a b h k = h.1 ∙ (ap Edge (parts_once lines h.0 k.0 h.2 k.2) ∙ sym k.1)
  kind_once (Area title bans shape) a b h k = h.1 ∙ (ap (λ (p : Part). Area title bans p) (part_once shape h.0 k.0 h.2 k.2) ∙ sym k.1)
  kind_once (Body reference front back on_back) a b h k =
      h.2 ∙ (ap (λ (ps : List Part). Body reference ps h.1 on_back) (parts_once front h.0 k.0 h.3 k.3) ∙ (ap (λ (ps : List Part). Body reference k.0 ps on_back) (parts_once back h.1 k.1 h.4 k.4) ∙ sym k.2))

-- ---- items
pub item_once : (dx dy : ℤ) (i a b : Item) → IsShiftedItem dx dy i a → IsShiftedItem dx dy i b → a ≡ b
item_once dx dy i a b h k =
    item_is a b (h.name ∙ sym k.name) (h.unit ∙ sym k.unit) (h.net ∙ sym k.net) (h.x ∙ sym k.x) (h.y ∙ sym k.y)
    (parts_once (pos 2 *ℤ dx) (pos 2 *ℤ dy) i.copper a.copper b.copper h.copper k.copper) (holes_once (pos 2 *ℤ dx) (pos 2 *ℤ dy) i.hole a.hole b.hole h.hole k.hole) (h.local ∙ sym k.local)
    (kind_once (pos 2 *ℤ dx) (pos 2 *ℤ dy) i.what a.what b.what h.what k.what)
