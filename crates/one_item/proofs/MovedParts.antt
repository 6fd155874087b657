-- The parts of an item move with it.
use Rattle.std.proofs.Common.{ℤ, pos, ◌*ℤ◌, List, [], ◌∷◌, ◌++◌, Option, None, Some, sym, subst}
use Rattle.std.specs.List.{AllZip}
use Rattle.one_item.specs.declared.item.Hole.{Hole}
use Rattle.one_item.specs.declared.item.What.{What}
use Rattle.one_item.specs.declared.item.What.TheVariants.{Track, Via, Pad, Graphic, Fill, Edge, Area, Body, Note}
use Rattle.one_item.specs.declared.item.Item.{Item}
use Rattle.one_item.specs.ItemParts.{parts_of, hole_parts, kind_parts}
use Rattle.one_item.specs.ItemMoves.{IsShiftedPart, AreShifted, HoleIsShifted, KindIsShifted, IsShiftedItem}

zip_append : {X : Type 0} (R : X → X → Type 0) (xs ys us vs : List X) → AllZip R xs ys → AllZip R us vs → AllZip R (xs ++ us) (ys ++ vs)
zip_append R [] [] us vs h k = k
zip_append R [] (y ∷ ys) us vs h k = absurd h
zip_append R (x ∷ xs) [] us vs h k = absurd h
zip_append R (x ∷ xs) (y ∷ ys) us vs h k = (h.0, zip_append R xs ys us vs h.1 k)

hole_zip : (dx dy : ℤ) (a b : Option Hole) → HoleIsShifted dx dy a b → AreShifted dx dy (hole_parts a) (hole_parts b)
hole_zip dx dy None None h = tt
hole_zip dx dy None (Some b) h = absurd h
hole_zip dx dy (Some a) None h = absurd h
hole_zip dx dy (Some a) (Some b) h = (record { layers = h.layers; shape = h.shape }, tt)

kind_zip : (dx dy : ℤ) (a b : What) → KindIsShifted dx dy a b → AreShifted dx dy (kind_parts a) (kind_parts b)
kind_zip dx dy (Track w) b h = subst (λ (k : What). AreShifted dx dy [] (kind_parts k)) (sym h) tt
kind_zip dx dy (Via s d m l) b h = subst (λ (k : What). AreShifted dx dy [] (kind_parts k)) (sym h) tt
kind_zip dx dy (Pad n r) b h = subst (λ (k : What). AreShifted dx dy [] (kind_parts k)) (sym h) tt
kind_zip dx dy Graphic b h = subst (λ (k : What). AreShifted dx dy [] (kind_parts k)) (sym h) tt
kind_zip dx dy Fill b h = subst (λ (k : What). AreShifted dx dy [] (kind_parts k)) (sym h) tt
kind_zip dx dy (Edge lines) b h = subst (λ (k : What). AreShifted dx dy lines (kind_parts k)) (sym h.1) h.2
kind_zip dx dy (Area t s p) b h = subst (λ (k : What). AreShifted dx dy (p ∷ []) (kind_parts k)) (sym h.1) (h.2, tt)
kind_zip dx dy (Body r f k o) b h = subst (λ (w : What). AreShifted dx dy (f ++ k) (kind_parts w)) (sym h.2) (zip_append (IsShiftedPart dx dy) f h.0 k h.1 h.3 h.4)
kind_zip dx dy (Note a l) b h = subst (λ (k : What). AreShifted dx dy [] (kind_parts k)) (sym h) tt

pub parts_zip : (dx dy : ℤ) (a b : Item) → IsShiftedItem dx dy a b → AreShifted (pos 2 *ℤ dx) (pos 2 *ℤ dy) (parts_of a) (parts_of b)
parts_zip dx dy a b s =
    zip_append (IsShiftedPart (pos 2 *ℤ dx) (pos 2 *ℤ dy)) a.copper b.copper (hole_parts a.hole ++ kind_parts a.what) (hole_parts b.hole ++ kind_parts b.what) s.copper
    (zip_append (IsShiftedPart (pos 2 *ℤ dx) (pos 2 *ℤ dy)) (hole_parts a.hole) (hole_parts b.hole) (kind_parts a.what) (kind_parts b.what) (hole_zip (pos 2 *ℤ dx) (pos 2 *ℤ dy) a.hole b.hole s.hole) (kind_zip (pos 2 *ℤ dx) (pos 2 *ℤ dy) a.what b.what s.what))
