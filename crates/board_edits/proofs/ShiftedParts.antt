-- What is moved onto the board stays there.
use Rattle.std.proofs.Common.{◌≡◌, ◌∙◌, ap, sym, subst, refl, ℕ, ◌≤◌, ℤ, pos, neg_ℤ, ◌+ℤ◌, ◌*ℤ◌, unsigned_abs, Bool, true, false, cond, ◌&&◌, List, [], ◌∷◌, is_some, MatchBool, arith}
use Rattle.std.specs.Int.Signed.{le_z}
use Rattle.std.specs.List.{AllZip, list_all}
use Rattle.std.proofs.lemmas.Bool.{and_from, and_parts}
use Rattle.std.proofs.lemmas.Int.{ints}
use Rattle.geo_seg.specs.declared.points.Point.{Point}
use Rattle.geo_seg.specs.declared.shapes.Core.{Core}
use Rattle.geo_seg.specs.declared.shapes.Core.TheVariants.{Line, Area as Polygon}
use Rattle.geo_seg.specs.Shifts.{IsShiftedPoint, IsShiftedCore, is_coordinate, point_stays, core_stays}
use Rattle.one_item.specs.declared.parts.Part.{Part}
use Rattle.one_item.specs.declared.item.Item.{Item}
use Rattle.one_item.specs.Positions.{is_near, is_on_board}
use Rattle.board_items.specs.Boards.{PlainBoard, AllAdmitted, name_of, has_layers_of}
use Rattle.one_item.specs.ItemParts.{parts_of}
use Rattle.one_item.specs.ItemMoves.{AreShifted, IsShiftedItem, item_stays}
use Rattle.board_items.specs.UnitMoves.{moves, unit_stays, IsMovedEntry}
use Rattle.board_laws.proofs.Rest.{Entry}
use Rattle.one_item.proofs.MovedParts.{parts_zip}

-- ---- where all points are in range, what was moved there stays
in_range : (z : ℤ) → unsigned_abs z ≤ 1000000000 → is_coordinate z ≡ true
in_range z h = by (le_z (neg_ℤ (pos 1000000000)) z) (le_z z (pos 1000000000)) refl refl
  where
    by : (a b : Bool) → le_z (neg_ℤ (pos 1000000000)) z ≡ a → le_z z (pos 1000000000) ≡ b → (a && b) ≡ true
    by true true k l = refl
    by true false k l = absurd (omega (arith, ints, k, l))
    by false b k l = absurd (omega (arith, ints, k))

moved_in : (z d w : ℤ) → w ≡ z +ℤ d → unsigned_abs w ≤ 1000000000 → is_coordinate (z +ℤ d) ≡ true
moved_in z d w e h = subst (λ (n : ℤ). is_coordinate n ≡ true) e (in_range w h)

point_stay : (d e : ℤ) (p q : Point) → IsShiftedPoint d e p q → point_stays d e p ≡ true
point_stay d e p q h = and_from (is_coordinate (p.x +ℤ d)) (is_coordinate (p.y +ℤ e)) (moved_in p.x d q.x h.x q.x_in_range) (moved_in p.y e q.y h.y q.y_in_range)

corners_stay : (d e : ℤ) (ps qs : List Point) → AllZip (IsShiftedPoint d e) ps qs → list_all (point_stays d e) ps ≡ true
corners_stay d e [] qs h = refl
corners_stay d e (p ∷ ps) [] h = absurd h
corners_stay d e (p ∷ ps) (q ∷ qs) h = and_from (point_stays d e p) (list_all (point_stays d e) ps) (point_stay d e p q h.0) (corners_stay d e ps qs h.1)

core_stay : (d e : ℤ) (a b : Core) → IsShiftedCore d e a b → core_stays d e a ≡ true
core_stay d e (Line s) (Line t) h = and_from (point_stays d e s.a) (point_stays d e s.b) (point_stay d e s.a t.a h.0) (point_stay d e s.b t.b h.1)
core_stay d e (Line s) (Polygon qs) h = absurd h
core_stay d e (Polygon ps) (Line t) h = absurd h
core_stay d e (Polygon ps) (Polygon qs) h = corners_stay d e ps qs h

parts_stay : (d e : ℤ) (ps qs : List Part) → AreShifted d e ps qs → list_all (λ (part : Part). core_stays d e part.shape.core) ps ≡ true
parts_stay d e [] qs h = refl
parts_stay d e (p ∷ ps) [] h = absurd h
parts_stay d e (p ∷ ps) (q ∷ qs) h =
    and_from (core_stays d e p.shape.core) (list_all (λ (part : Part). core_stays d e part.shape.core) ps) (core_stay d e p.shape.core q.shape.core h.0.shape.core) (parts_stay d e ps qs h.1)

item_stay : (dx dy : ℤ) (a b : Item) → IsShiftedItem dx dy a b → is_on_board b ≡ true → item_stays dx dy a ≡ true
item_stay dx dy a b s on =
    and_from (is_near (a.x +ℤ dx) && is_near (a.y +ℤ dy)) (list_all (λ (part : Part). core_stays (pos 2 *ℤ dx) (pos 2 *ℤ dy) part.shape.core) (parts_of a))
    (ap (λ (z : ℤ). is_near z && is_near (a.y +ℤ dy)) (sym s.x) ∙ (ap (λ (z : ℤ). is_near b.x && is_near z) (sym s.y) ∙ on))
    (parts_stay (pos 2 *ℤ dx) (pos 2 *ℤ dy) (parts_of a) (parts_of b) (parts_zip dx dy a b s))

-- ---- units
entry_stay : (unit : ℕ) (dx dy : ℤ) (e f : Entry) → IsMovedEntry unit dx dy e f → is_on_board f.1 ≡ true → cond (moves unit e.1) (item_stays dx dy e.1) true ≡ true
entry_stay unit dx dy e f h on = by (moves unit e.1) h.item
  where
    by : (b : Bool) → MatchBool b (IsShiftedItem dx dy e.1 f.1) (f.1 ≡ e.1) → cond b (item_stays dx dy e.1) true ≡ true
    by true s = item_stay dx dy e.1 f.1 s on
    by false s = refl

pub unit_stay : (unit : ℕ) (dx dy : ℤ) (board : PlainBoard) (es fs : List Entry) → AllZip (IsMovedEntry unit dx dy) es fs → AllAdmitted board fs → unit_stays unit dx dy es ≡ true
unit_stay unit dx dy board [] fs h on = refl
unit_stay unit dx dy board (e ∷ es) [] h on = absurd h
unit_stay unit dx dy board (e ∷ es) (f ∷ fs) h on =
    let first = (and_parts (is_on_board f.1 && is_some (name_of board f.1.net)) (has_layers_of board f.1) on.0).0 in
    let here : is_on_board f.1 ≡ true = (and_parts (is_on_board f.1) (is_some (name_of board f.1.net)) first).0 in
    and_from (cond (moves unit e.1) (item_stays dx dy e.1) true) (unit_stays unit dx dy es) (entry_stay unit dx dy e f h.0 here) (unit_stay unit dx dy board es fs h.1 on.1)
