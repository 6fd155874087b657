-- A track's list that is equal up to translation gives the track, carried.
use Rattle.std.proofs.Common.{◌≡◌, ◌∙◌, refl, sym, ap, subst, ℕ, ℤ, pos, ◌+ℤ◌, ◌*ℤ◌, true, ◌&&◌, List, [], ◌∷◌, Option, None, Some, Ok, codes, arith}
use Rattle.std.proofs.lemmas.Int.{ints}
use Rattle.int_algebra.proofs.Tested.{front, back}
use Rattle.sexpr_read.specs.declared.place.Span.{Span}
use Rattle.sexpr_read.specs.Tree.{Forest, branch}
use Rattle.geo_seg.specs.declared.shapes.Core.{Core}
use Rattle.geo_seg.specs.declared.shapes.Core.TheVariants.{Line, Area}
use Rattle.geo_seg.specs.declared.shapes.Shape.{Shape}
use Rattle.geo_seg.specs.Shifts.{IsShiftedCore, IsShiftedShape}
use Rattle.board_errors.specs.declared.errors.BoardError.{BoardError}
use Rattle.board_errors.specs.declared.errors.BoardError.TheVariants.{OutOfBoard}
use Rattle.copper_layers.specs.declared.set.LayerSet.{LayerSet}
use Rattle.one_item.specs.declared.parts.Part.{Part}
use Rattle.one_item.specs.declared.item.Hole.{Hole}
use Rattle.one_item.specs.declared.item.What.TheVariants.{Track}
use Rattle.one_item.specs.declared.item.Item.{Item}
use Rattle.one_item.specs.ItemMoves.{AreShifted, HoleIsShifted}
use Rattle.copper_layers.specs.Layers.{single_layer}
use Rattle.one_item.specs.Positions.{is_near}
use Rattle.board_items.specs.Boards.{PlainBoard, name_of}
use Rattle.part_read.specs.declared.numbers.RawPoint.{RawPoint}
use Rattle.part_read.specs.declared.on_board.Strip.{Strip}
use Rattle.list_read.specs.FirstRefusals.{needed}
use Rattle.list_read.specs.ListHeads.{place}
use Rattle.part_read.specs.ElementResults.{name_in}
use Rattle.part_read.specs.BoardNumbers.{raw_point_of, size_of}
use Rattle.part_read.specs.BoardLayers.{layer_of}
use Rattle.part_read.specs.NetsOf.{net_of}
use Rattle.plain_types.specs.Lengths.{is_length}
use Rattle.part_read.specs.OnBoard.{fits_board, point_at, is_strip, strip_shape}
use Rattle.part_read.proofs.Shapes.{one_line, one_shape, is_tested}
use Rattle.roundtrip_lists.specs.Translated.{Shift, Translated}
use Rattle.roundtrip_lists.specs.Agreeing.{Agrees, Same}
use Rattle.roundtrip_lists.specs.Moved.{moved_raw_point, IsMovedRawPoint}
use Rattle.roundtrip_lists.specs.Carried.{shift_of, IfAccepted, ReadsCarried}
use Rattle.pcb_read.specs.declared.items.Origin.{Origin}
use Rattle.pcb_read.specs.Tracks.{track_along, track_of}
use Rattle.roundtrip_lists.proofs.Numbers.{size_translated, name_translated, net_translated, layer_translated}
use Rattle.roundtrip_lists.proofs.RawPoints.{raw_point_translated}
use Rattle.roundtrip_lists.proofs.Shapes.{one_item, leads_bind, leads_tested, half_near, settled, fits_moved, two_pass}

-- ---- a strip that is carried

-- the shape of a strip, moved, shows that the moved strip lies on the board, and is its shape
pub record StripCarried (d : Shift) (strip : Strip) (other : Shape) : Type 0 where
  pub start_x : is_near (strip.a.x +ℤ d.dx) ≡ true
  pub start_y : is_near (strip.a.y +ℤ d.dy) ≡ true
  pub end_x : is_near (strip.b.x +ℤ d.dx) ≡ true
  pub end_y : is_near (strip.b.y +ℤ d.dy) ≡ true
  pub wide : is_length strip.width ≡ true
  pub is : (fits : is_strip (record { a = moved_raw_point d strip.a; b = moved_raw_point d strip.b; width = strip.width }) ≡ true)
      → other ≡ strip_shape (record { a = moved_raw_point d strip.a; b = moved_raw_point d strip.b; width = strip.width }) fits

abbrev pub moved_strip : Shift → Strip → Strip
moved_strip d strip = record { a = moved_raw_point d strip.a; b = moved_raw_point d strip.b; width = strip.width }

twice : (p z w : ℤ) → p ≡ (pos 2 *ℤ z) +ℤ (pos 2 *ℤ w) → p ≡ pos 2 *ℤ (z +ℤ w)
twice p z w e = omega (arith, ints, e)

strip_by : (d : Shift) (strip : Strip) (fits : is_strip strip ≡ true) (core : Core) (radius : ℤ) (other : Shape) → other.core ≡ core → other.radius ≡ strip.width
    → IsShiftedCore (pos 2 *ℤ d.dx) (pos 2 *ℤ d.dy) (strip_shape strip fits).core core → StripCarried d strip other
strip_by d strip fits (Line s) radius other e f h = record {
  start_x = half_near s.a.x strip.a.x d.dx s.a.x_in_range h.0.x;
  start_y = half_near s.a.y strip.a.y d.dy s.a.y_in_range h.0.y;
  end_x = half_near s.b.x strip.b.x d.dx s.b.x_in_range h.1.x;
  end_y = half_near s.b.y strip.b.y d.dy s.b.y_in_range h.1.y;
  wide = back _ _ fits;
  is = λ k. one_shape other (strip_shape (moved_strip d strip) k)
      (e ∙ one_line s.a s.b (point_at (moved_raw_point d strip.a) (front _ _ (front _ _ k))) (point_at (moved_raw_point d strip.b) (back _ _ (front _ _ k)))
      (twice s.a.x strip.a.x d.dx h.0.x) (twice s.a.y strip.a.y d.dy h.0.y) (twice s.b.x strip.b.x d.dx h.1.x) (twice s.b.y strip.b.y d.dy h.1.y))
      f;
}
strip_by d strip fits (Area corners) radius other e f h = absurd h

pub strip_carried : (d : Shift) (strip : Strip) (fits : is_strip strip ≡ true) (other : Shape) → IsShiftedShape (pos 2 *ℤ d.dx) (pos 2 *ℤ d.dy) (strip_shape strip fits) other → StripCarried d strip other
strip_carried d strip fits other h = strip_by d strip fits other.core other.radius other refl h.radius h.core

-- then the moved strip lies on the board
pub strip_there : (d : Shift) (strip : Strip) (other : Shape) → StripCarried d strip other → is_strip (moved_strip d strip) ≡ true
strip_there d strip other k =
    two_pass (fits_board (moved_raw_point d strip.a) && fits_board (moved_raw_point d strip.b)) (is_length strip.width)
    (two_pass (fits_board (moved_raw_point d strip.a)) (fits_board (moved_raw_point d strip.b)) (fits_moved (moved_raw_point d strip.a) k.start_x k.start_y) (fits_moved (moved_raw_point d strip.b) k.end_x k.end_y)) k.wide

-- ---- tracks

pub part_made : (layers : LayerSet) (part : Part) (shape : Shape) → part.layers ≡ layers → part.shape ≡ shape → part ≡ record { layers = layers; shape = shape }
part_made layers part shape e f =
    ap (λ (l : LayerSet). let p : Part = record { layers = l; shape = part.shape } in p) e ∙ ap (λ (s : Shape). let p : Part = record { layers = layers; shape = s } in p) f

module _ (d : Shift) (strip : Strip) (origin : Origin) (fits : is_strip strip ≡ true) (name : List ℕ) (unit : ℕ) (place : BoardError) (moved : Item) where
  abbrev other : Origin
  other = record { name = name; unit = unit; net = origin.net; layers = origin.layers }

  from_part : (parts : List Part) → AreShifted (pos 2 *ℤ d.dx) (pos 2 *ℤ d.dy) (record { layers = origin.layers; shape = strip_shape strip fits } ∷ []) parts → moved.copper ≡ parts
      → moved.name ≡ name → moved.unit ≡ unit → moved.net ≡ origin.net → moved.x ≡ strip.a.x +ℤ d.dx → moved.y ≡ strip.a.y +ℤ d.dy
      → HoleIsShifted (pos 2 *ℤ d.dx) (pos 2 *ℤ d.dy) None moved.hole → moved.local ≡ None → moved.what ≡ Track strip.width
      → needed place (track_along (moved_strip d strip) other) ≡ Ok moved
  from_part [] h e en eu et ex ey eh el ew = absurd h
  from_part (p ∷ q ∷ ps) h e en eu et ex ey eh el ew = absurd h.1
  from_part (p ∷ []) h e en eu et ex ey eh el ew =
      let k = strip_carried d strip fits p.shape h.0.shape in
      let there : is_strip (moved_strip d strip) ≡ true = strip_there d strip p.shape k in
      sym (ap (needed place) (is_tested (is_strip (moved_strip d strip)) _ moved
      (λ fit. one_item moved _ en eu et ex ey (e ∙ ap (λ (r : Part). r ∷ []) (part_made origin.layers p (strip_shape (moved_strip d strip) fit) h.0.layers (k.is fit))) (no_hole moved.hole eh) el ew) there))
    where
      no_hole : (hole : Option Hole) → HoleIsShifted (pos 2 *ℤ d.dx) (pos 2 *ℤ d.dy) None hole → hole ≡ None
      no_hole None h = refl
      no_hole (Some x) h = absurd h

-- the last step: what was read of both lists
last_step : (d : Option Shift) (strip new : Strip) (origin own : Origin) (e f : BoardError) → IsMovedRawPoint d strip.a new.a → IsMovedRawPoint d strip.b new.b → new.width ≡ strip.width
    → own.name ≡ origin.name → own.net ≡ origin.net → own.layers ≡ origin.layers
    → IfAccepted (ReadsCarried (shift_of d) own.unit) (needed e (track_along strip origin)) (needed f (track_along new own))
last_step d strip new origin own e f a b w en et el =
    leads_tested (ReadsCarried (shift_of d) own.unit) e (is_strip strip) _ (needed f (track_along new own))
    (λ fits. (
      refl,
      λ moved c on_board of_unit.
          let k = (near_ends fits moved.copper c.copper).1 in
          let start : new.a ≡ moved_raw_point (shift_of d) strip.a = settled d strip.a new.a a k.start_x k.start_y in
          let end : new.b ≡ moved_raw_point (shift_of d) strip.b = settled d strip.b new.b b k.end_x k.end_y in
          let same : new ≡ moved_strip (shift_of d) strip =
          ap (λ (z : RawPoint). let t : Strip = record { a = z; b = new.b; width = new.width } in t) start
          ∙ ap (λ (z : RawPoint). let t : Strip = record { a = moved_raw_point (shift_of d) strip.a; b = z; width = new.width } in t) end
          ∙ ap (λ (z : ℤ). let t : Strip = record { a = moved_raw_point (shift_of d) strip.a; b = moved_raw_point (shift_of d) strip.b; width = z } in t) w in
          let of_other : own ≡ record { name = own.name; unit = own.unit; net = origin.net; layers = origin.layers } =
          ap (λ (n : ℕ). let o : Origin = record { name = own.name; unit = own.unit; net = n; layers = own.layers } in o) et
          ∙ ap (λ (l : LayerSet). let o : Origin = record { name = own.name; unit = own.unit; net = origin.net; layers = l } in o) el in
          ap (λ (t : Strip). needed f (track_along t own)) same
          ∙ ap (λ (o : Origin). needed f (track_along (moved_strip (shift_of d) strip) o)) of_other
          ∙ from_part (shift_of d) strip origin fits own.name own.unit f moved moved.copper c.copper refl (c.name ∙ sym en) of_unit c.net c.x c.y c.hole c.local c.what,
    ))
  where
    near_ends : (fits : is_strip strip ≡ true) (parts : List Part) → AreShifted (pos 2 *ℤ (shift_of d).dx) (pos 2 *ℤ (shift_of d).dy) (record { layers = origin.layers; shape = strip_shape strip fits } ∷ []) parts
        → (shape : Shape) × StripCarried (shift_of d) strip shape
    near_ends fits [] h = absurd h
    near_ends fits (p ∷ ps) h = (p.shape, strip_carried (shift_of d) strip fits p.shape h.0.shape)

pub track_carried : (d : Option Shift) (board other : PlainBoard) → board.copper ≡ other.copper → ((n : ℕ) → name_of board n ≡ name_of other n) → (unit own : ℕ) (i j : Forest) (s r : Span) → Translated d i j
    → IfAccepted (ReadsCarried (shift_of d) own) (track_of board unit (branch s i)) (track_of other own (branch r j))
unfolding track_of
track_carried d board other layers nets unit own i j s r h =
    let Q = ReadsCarried (shift_of d) own in
    leads_bind (IsMovedRawPoint d) Q (raw_point_of (codes "start") (branch s i)) (raw_point_of (codes "start") (branch r j)) _ _ (raw_point_translated d (codes "start") refl i j s r h) (λ a a' ea.
    leads_bind (IsMovedRawPoint d) Q (raw_point_of (codes "end") (branch s i)) (raw_point_of (codes "end") (branch r j)) _ _ (raw_point_translated d (codes "end") refl i j s r h) (λ b b' eb.
    leads_bind Same Q (size_of (codes "width") (branch s i)) (size_of (codes "width") (branch r j)) _ _ (size_translated d (codes "width") refl i j s r h) (λ w w' ew.
    leads_bind Same Q (layer_of board.copper (branch s i)) (layer_of other.copper (branch r j)) _ _ (subst (λ (l : LayerSet). Agrees Same (layer_of board.copper (branch s i)) (layer_of l (branch r j))) layers (layer_translated d board.copper i j s r h)) (λ l l' el.
    leads_bind Same Q (net_of board (branch s i)) (net_of other (branch r j)) _ _ (net_translated d board other nets i j s r h) (λ n n' en.
    last_step d (record { a = a; b = b; width = w }) (record { a = a'; b = b'; width = w' }) (record { name = name_in (branch s i); unit = unit; net = n; layers = single_layer l })
    (record { name = name_in (branch r j); unit = own; net = n'; layers = single_layer l' }) (OutOfBoard (place (branch s i))) (OutOfBoard (place (branch r j))) ea eb ew
    (sym (name_translated d i j s r h)) en (ap single_layer el))))))
