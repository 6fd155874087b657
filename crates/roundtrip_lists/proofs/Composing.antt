-- What is carried and then moved is carried by both.
use Rattle.std.proofs.Common.{◌≡◌, ◌∙◌, subst, ℤ, pos, ◌+ℤ◌, ◌*ℤ◌, List, [], ◌∷◌, Option, None, Some, arith}
use Rattle.std.specs.List.{AllZip}
use Rattle.std.proofs.lemmas.Int.{ints}
use Rattle.geo_seg.specs.declared.points.Point.{Point}
use Rattle.geo_seg.specs.declared.shapes.Core.{Core}
use Rattle.geo_seg.specs.declared.shapes.Core.TheVariants.{Line, Area}
use Rattle.geo_seg.specs.declared.shapes.Shape.{Shape}
use Rattle.geo_seg.specs.Shifts.{IsShiftedPoint, IsShiftedCore, IsShiftedShape}
use Rattle.one_item.specs.declared.parts.Part.{Part}
use Rattle.one_item.specs.declared.item.Hole.{Hole}
use Rattle.one_item.specs.declared.item.What.{What}
use Rattle.one_item.specs.declared.item.What.TheVariants.{Track, Via, Pad, Graphic, Fill, Edge, Area as RuleArea, Body, Note}
use Rattle.one_item.specs.declared.item.Item.{Item}
use Rattle.one_item.specs.ItemMoves.{IsShiftedPart, AreShifted, HoleIsShifted, KindIsShifted, IsShiftedItem}
use Rattle.roundtrip_lists.specs.Translated.{Shift}
use Rattle.roundtrip_lists.specs.Carried.{IsCarried}

sum_of : (a b c u v : ℤ) → b ≡ a +ℤ (pos 2 *ℤ u) → c ≡ b +ℤ (pos 2 *ℤ v) → c ≡ a +ℤ (pos 2 *ℤ (u +ℤ v))
sum_of a b c u v h k = omega (arith, ints, h, k)

plain_sum : (a b c u v : ℤ) → b ≡ a +ℤ u → c ≡ b +ℤ v → c ≡ a +ℤ (u +ℤ v)
plain_sum a b c u v h k = omega (arith, ints, h, k)

module _ (d e : Shift) where
  abbrev both : Shift
  both = record { dx = d.dx +ℤ e.dx; dy = d.dy +ℤ e.dy }

  point_both : (p q r : Point) → IsShiftedPoint (pos 2 *ℤ d.dx) (pos 2 *ℤ d.dy) p q → IsShiftedPoint (pos 2 *ℤ e.dx) (pos 2 *ℤ e.dy) q r → IsShiftedPoint (pos 2 *ℤ both.dx) (pos 2 *ℤ both.dy) p r
  point_both p q r h k = record { x = sum_of p.x q.x r.x d.dx e.dx h.x k.x; y = sum_of p.y q.y r.y d.dy e.dy h.y k.y }

  zip_both : {A : Type 0} (R S T : A → A → Type 0) → ((a b c : A) → R a b → S b c → T a c) → (xs ys zs : List A) → AllZip R xs ys → AllZip S ys zs → AllZip T xs zs
  zip_both R S T f [] [] [] h k = tt
  zip_both R S T f [] [] (z ∷ zs) h k = absurd k
  zip_both R S T f [] (y ∷ ys) zs h k = absurd h
  zip_both R S T f (x ∷ xs) [] zs h k = absurd h
  zip_both R S T f (x ∷ xs) (y ∷ ys) [] h k = absurd k
  zip_both R S T f (x ∷ xs) (y ∷ ys) (z ∷ zs) h k = (f x y z h.0 k.0, zip_both R S T f xs ys zs h.1 k.1)

  core_both : (a b c : Core) → IsShiftedCore (pos 2 *ℤ d.dx) (pos 2 *ℤ d.dy) a b → IsShiftedCore (pos 2 *ℤ e.dx) (pos 2 *ℤ e.dy) b c → IsShiftedCore (pos 2 *ℤ both.dx) (pos 2 *ℤ both.dy) a c
  core_both (Line s) (Line t) (Line u) h k = (point_both s.a t.a u.a h.0 k.0, point_both s.b t.b u.b h.1 k.1)
  core_both (Line s) (Line t) (Area zs) h k = absurd k
  core_both (Line s) (Area ys) c h k = absurd h
  core_both (Area xs) (Line t) c h k = absurd h
  core_both (Area xs) (Area ys) (Line u) h k = absurd k
  core_both (Area xs) (Area ys) (Area zs) h k =
      zip_both (IsShiftedPoint (pos 2 *ℤ d.dx) (pos 2 *ℤ d.dy)) (IsShiftedPoint (pos 2 *ℤ e.dx) (pos 2 *ℤ e.dy)) (IsShiftedPoint (pos 2 *ℤ both.dx) (pos 2 *ℤ both.dy)) point_both xs ys zs h k

  shape_both : (a b c : Shape) → IsShiftedShape (pos 2 *ℤ d.dx) (pos 2 *ℤ d.dy) a b → IsShiftedShape (pos 2 *ℤ e.dx) (pos 2 *ℤ e.dy) b c → IsShiftedShape (pos 2 *ℤ both.dx) (pos 2 *ℤ both.dy) a c
  shape_both a b c h k = record { core = core_both a.core b.core c.core h.core k.core; radius = k.radius ∙ h.radius }

  part_both : (a b c : Part) → IsShiftedPart (pos 2 *ℤ d.dx) (pos 2 *ℤ d.dy) a b → IsShiftedPart (pos 2 *ℤ e.dx) (pos 2 *ℤ e.dy) b c → IsShiftedPart (pos 2 *ℤ both.dx) (pos 2 *ℤ both.dy) a c
  part_both a b c h k = record { layers = k.layers ∙ h.layers; shape = shape_both a.shape b.shape c.shape h.shape k.shape }

  parts_both : (xs ys zs : List Part) → AreShifted (pos 2 *ℤ d.dx) (pos 2 *ℤ d.dy) xs ys → AreShifted (pos 2 *ℤ e.dx) (pos 2 *ℤ e.dy) ys zs → AreShifted (pos 2 *ℤ both.dx) (pos 2 *ℤ both.dy) xs zs
  parts_both xs ys zs h k = zip_both (IsShiftedPart (pos 2 *ℤ d.dx) (pos 2 *ℤ d.dy)) (IsShiftedPart (pos 2 *ℤ e.dx) (pos 2 *ℤ e.dy)) (IsShiftedPart (pos 2 *ℤ both.dx) (pos 2 *ℤ both.dy)) part_both xs ys zs h k

  hole_both : (a b c : Option Hole) → HoleIsShifted (pos 2 *ℤ d.dx) (pos 2 *ℤ d.dy) a b → HoleIsShifted (pos 2 *ℤ e.dx) (pos 2 *ℤ e.dy) b c → HoleIsShifted (pos 2 *ℤ both.dx) (pos 2 *ℤ both.dy) a c
  hole_both None None None h k = tt
  hole_both None None (Some z) h k = absurd k
  hole_both None (Some y) c h k = absurd h
  hole_both (Some x) None c h k = absurd h
  hole_both (Some x) (Some y) None h k = absurd k
  hole_both (Some x) (Some y) (Some z) h k = record { shape = shape_both x.shape y.shape z.shape h.shape k.shape; layers = k.layers ∙ h.layers; plated = k.plated ∙ h.plated; least = k.least ∙ h.least }

  kind_both : (a b c : What) → KindIsShifted (pos 2 *ℤ d.dx) (pos 2 *ℤ d.dy) a b → KindIsShifted (pos 2 *ℤ e.dx) (pos 2 *ℤ e.dy) b c → KindIsShifted (pos 2 *ℤ both.dx) (pos 2 *ℤ both.dy) a c
  kind_both (Edge xs) b c h k =
      let l = subst (λ (w : What). KindIsShifted (pos 2 *ℤ e.dx) (pos 2 *ℤ e.dy) w c) h.1 k in (l.0, l.1, parts_both xs h.0 l.0 h.2 l.2)
  kind_both (RuleArea title bans shape) b c h k =
      let l = subst (λ (w : What). KindIsShifted (pos 2 *ℤ e.dx) (pos 2 *ℤ e.dy) w c) h.1 k in (l.0, l.1, part_both shape h.0 l.0 h.2 l.2)
  kind_both (Body reference front back on_back) b c h k =
      let l = subst (λ (w : What). KindIsShifted (pos 2 *ℤ e.dx) (pos 2 *ℤ e.dy) w c) h.2 k in
      (l.0, l.1, l.2, parts_both front h.0 l.0 h.3 l.3, parts_both back h.1 l.1 h.4 l.4)
  kind_both (Track w) b c h k = subst (λ (x : What). KindIsShifted (pos 2 *ℤ e.dx) (pos 2 *ℤ e.dy) x c) h k
  kind_both (Via s r m l) b c h k = subst (λ (x : What). KindIsShifted (pos 2 *ℤ e.dx) (pos 2 *ℤ e.dy) x c) h k
  kind_both (Pad n r) b c h k = subst (λ (x : What). KindIsShifted (pos 2 *ℤ e.dx) (pos 2 *ℤ e.dy) x c) h k
  kind_both Graphic b c h k = subst (λ (x : What). KindIsShifted (pos 2 *ℤ e.dx) (pos 2 *ℤ e.dy) x c) h k
  kind_both Fill b c h k = subst (λ (x : What). KindIsShifted (pos 2 *ℤ e.dx) (pos 2 *ℤ e.dy) x c) h k
  kind_both (Note about layer) b c h k = subst (λ (x : What). KindIsShifted (pos 2 *ℤ e.dx) (pos 2 *ℤ e.dy) x c) h k

  pub carried_both : (a b c : Item) → IsCarried d a b → IsShiftedItem e.dx e.dy b c → IsCarried both a c
  carried_both a b c h k = record {
    name = k.name ∙ h.name;
    net = k.net ∙ h.net;
    x = plain_sum a.x b.x c.x d.dx e.dx h.x k.x;
    y = plain_sum a.y b.y c.y d.dy e.dy h.y k.y;
    copper = parts_both a.copper b.copper c.copper h.copper k.copper;
    hole = hole_both a.hole b.hole c.hole h.hole k.hole;
    local = k.local ∙ h.local;
    what = kind_both a.what b.what c.what h.what k.what;
  }
