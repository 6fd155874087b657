-- What is moved has other parts, unless it is moved by nothing.
use Rattle.std.proofs.Common.{◌≡◌, ◌≢◌, refl, sym, subst, ℤ, pos, ◌+ℤ◌, ◌*ℤ◌, List, [], ◌∷◌, ◌++◌, arith}
use Rattle.std.proofs.lemmas.Int.{ints}
use Rattle.geo_seg.specs.declared.points.Point.{Point}
use Rattle.geo_seg.specs.declared.shapes.Core.{Core}
use Rattle.geo_seg.specs.declared.shapes.Core.TheVariants.{Line, Area as Polygon}
use Rattle.geo_seg.specs.Shifts.{IsShiftedPoint, IsShiftedCore}
use Rattle.one_item.specs.declared.parts.Part.{Part}
use Rattle.one_item.specs.declared.item.Item.{Item}
use Rattle.one_item.specs.ItemParts.{parts_of, HasPoints, FirstHasPoints}
use Rattle.one_item.specs.ItemMoves.{AreShifted, IsShiftedItem}
use Rattle.one_item.proofs.MovedParts.{parts_zip}

-- ---- the first part of two lists
pub first_of_both : (ps qs : List Part) → FirstHasPoints ps → FirstHasPoints qs → FirstHasPoints (ps ++ qs)
first_of_both [] qs h k = k
first_of_both (p ∷ ps) qs h k = h

-- ---- what moves onto itself moves by nothing
stay : (z d : ℤ) → z ≡ z +ℤ d → d ≡ pos 0
stay z d e = omega (arith, ints)

point_stays : (d e : ℤ) (p : Point) → IsShiftedPoint d e p p → (d ≡ pos 0) × (e ≡ pos 0)
point_stays d e p h = (stay p.x d h.x, stay p.y e h.y)

core_stays : (d e : ℤ) (c : Core) → HasPoints c → IsShiftedCore d e c c → (d ≡ pos 0) × (e ≡ pos 0)
core_stays d e (Line s) some h = point_stays d e s.a h.0
core_stays d e (Polygon []) some h = absurd (omega (arith, some))
core_stays d e (Polygon (p ∷ ps)) some h = point_stays d e p h.0

parts_stay : (d e : ℤ) (ps : List Part) → FirstHasPoints ps → ps ≢ [] → AreShifted d e ps ps → (d ≡ pos 0) × (e ≡ pos 0)
parts_stay d e [] h some k = absurd (some refl)
parts_stay d e (p ∷ ps) h some k = core_stays d e p.shape.core h k.0.shape.core

half : (d : ℤ) → (pos 2 *ℤ d) ≡ pos 0 → d ≡ pos 0
half d e = omega (arith, ints)

-- an item whose first part has points, and that is moved onto its own parts, is moved by nothing
pub moved_by_nothing : (dx dy : ℤ) (a b : Item) → FirstHasPoints (parts_of a) → parts_of a ≢ [] → IsShiftedItem dx dy a b → parts_of a ≡ parts_of b → (dx ≡ pos 0) × (dy ≡ pos 0)
moved_by_nothing dx dy a b first some moved same =
    let onto = subst (λ (qs : List Part). AreShifted (pos 2 *ℤ dx) (pos 2 *ℤ dy) (parts_of a) qs) (sym same) (parts_zip dx dy a b moved) in
    let none = parts_stay (pos 2 *ℤ dx) (pos 2 *ℤ dy) (parts_of a) first some onto in
    (half dx none.0, half dy none.1)
