-- A via's list that is equal up to translation gives the via, carried.
use Rattle.std.proofs.Common.{◌≡◌, ◌∙◌, refl, sym, ap, subst, ℕ, ℤ, pos, ◌+ℤ◌, ◌*ℤ◌, Bool, true, List, [], ◌∷◌, Option, None, Some, Ok, codes}
use Rattle.std.specs.Prelude.{unwrap_or}
use Rattle.int_algebra.proofs.Tested.{front, back}
use Rattle.sexpr_read.specs.declared.place.Span.{Span}
use Rattle.sexpr_read.specs.Tree.{Forest, Tree, branch}
use Rattle.geo_seg.specs.declared.shapes.Shape.{Shape}
use Rattle.board_errors.specs.declared.errors.BoardError.{BoardError}
use Rattle.board_errors.specs.declared.errors.BoardError.TheVariants.{OutOfBoard}
use Rattle.copper_layers.specs.declared.set.LayerSet.{LayerSet}
use Rattle.one_item.specs.declared.parts.Part.{Part}
use Rattle.one_item.specs.declared.item.Hole.{Hole}
use Rattle.one_item.specs.declared.item.What.TheVariants.{Via}
use Rattle.one_item.specs.declared.item.Item.{Item}
use Rattle.one_item.specs.ItemMoves.{AreShifted, HoleIsShifted}
use Rattle.board_items.specs.Boards.{PlainBoard, name_of}
use Rattle.part_read.specs.declared.numbers.RawPoint.{RawPoint}
use Rattle.list_read.specs.FirstRefusals.{needed}
use Rattle.list_read.specs.ListHeads.{place, has_word}
use Rattle.list_read.specs.NamedElements.{element}
use Rattle.part_read.specs.ElementResults.{name_in, in_needed, in_given}
use Rattle.part_read.specs.BoardNumbers.{raw_point_of, size_at, size_of}
use Rattle.part_read.specs.BoardLayers.{layers_through}
use Rattle.part_read.specs.NetsOf.{net_of}
use Rattle.part_read.specs.OnBoard.{is_strip, strip_shape}
use Rattle.part_read.proofs.Shapes.{is_tested}
use Rattle.pcb_read.specs.declared.items.Origin.{Origin}
use Rattle.pcb_read.specs.declared.items.ViaForm.{ViaForm}
use Rattle.pcb_read.specs.Tracks.{disc, is_drill, is_hole, hole_by, hole_through, is_via, via_at, via_of}
use Rattle.roundtrip_lists.specs.Translated.{Shift, Translated}
use Rattle.roundtrip_lists.specs.Agreeing.{Agrees, Same}
use Rattle.roundtrip_lists.specs.Moved.{moved_raw_point, IsMovedRawPoint}
use Rattle.roundtrip_lists.specs.Carried.{shift_of, IfAccepted, ReadsCarried}
use Rattle.roundtrip_lists.proofs.Elements.{inside_by_head}
use Rattle.roundtrip_lists.proofs.Numbers.{needed_translated, size_translated, name_translated, net_translated}
use Rattle.roundtrip_lists.proofs.RawPoints.{raw_point_translated}
use Rattle.roundtrip_lists.proofs.Shapes.{one_item, one_hole, leads_bind, leads_tested, settled, two_pass}
use Rattle.roundtrip_edited.proofs.Tracks.{StripCarried, strip_carried, strip_there, moved_strip, part_made}
use Rattle.roundtrip_edited.proofs.Given.{size_given, word_translated, through_translated}

-- ---- the hole of a via that is carried

abbrev moved_form : Shift → ViaForm → ViaForm
moved_form d form = record form { at = moved_raw_point d form.at }

drill_carried : (d : Shift) (form : ViaForm) (layers : LayerSet) (drill : Option ℤ) (fits : is_drill form drill ≡ true) (hole : Option Hole)
    → HoleIsShifted (pos 2 *ℤ d.dx) (pos 2 *ℤ d.dy) (hole_by form layers drill fits) hole
    → (is_drill (moved_form d form) drill ≡ true) × ((k : is_drill (moved_form d form) drill ≡ true) → hole ≡ hole_by (moved_form d form) layers drill k)
drill_carried d form layers None fits None h = (refl, λ k. refl)
drill_carried d form layers None fits (Some x) h = absurd h
drill_carried d form layers (Some drill) fits None h = absurd h
drill_carried d form layers (Some drill) fits (Some x) h =
    let k = strip_carried d (disc form drill) fits x.shape h.shape in
    (strip_there d (disc form drill) x.shape k, λ fit. ap (λ (z : Hole). let o : Option Hole = Some z in o) (one_hole x _ (k.is fit) h.layers h.plated h.least))

-- ---- vias

module _ (d : Shift) (form : ViaForm) (origin : Origin) (fits : is_via form ≡ true) (name : List ℕ) (unit : ℕ) (place : BoardError) (moved : Item) where
  abbrev other : Origin
  other = record { name = name; unit = unit; net = origin.net; layers = origin.layers }

  from_part : (parts : List Part) → AreShifted (pos 2 *ℤ d.dx) (pos 2 *ℤ d.dy) (record { layers = origin.layers; shape = strip_shape (disc form form.size) (front _ _ fits) } ∷ []) parts → moved.copper ≡ parts
      → moved.name ≡ name → moved.unit ≡ unit → moved.net ≡ origin.net → moved.x ≡ form.at.x +ℤ d.dx → moved.y ≡ form.at.y +ℤ d.dy
      → HoleIsShifted (pos 2 *ℤ d.dx) (pos 2 *ℤ d.dy) (hole_through form origin.layers (back _ _ fits)) moved.hole → moved.local ≡ None
      → moved.what ≡ Via form.size (unwrap_or form.drill (pos 0)) form.micro form.blind
      → needed place (via_at (moved_form d form) other) ≡ Ok moved
  from_part [] h e en eu et ex ey eh el ew = absurd h
  from_part (p ∷ q ∷ ps) h e en eu et ex ey eh el ew = absurd h.1
  from_part (p ∷ []) h e en eu et ex ey eh el ew =
      let k = strip_carried d (disc form form.size) (front _ _ fits) p.shape h.0.shape in
      let m = drill_carried d form origin.layers form.drill (back _ _ fits) moved.hole eh in
      let there : is_via (moved_form d form) ≡ true =
      two_pass (is_strip (disc (moved_form d form) form.size)) (is_hole (moved_form d form)) (strip_there d (disc form form.size) p.shape k) m.0 in
      sym (ap (needed place) (is_tested (is_via (moved_form d form)) _ moved
      (λ fit. one_item moved _ en eu et ex ey
      (e ∙ ap (λ (r : Part). r ∷ []) (part_made origin.layers p (strip_shape (moved_strip d (disc form form.size)) (front _ _ fit)) h.0.layers (k.is (front _ _ fit))))
      (m.1 (back _ _ fit)) el ew) there))

-- the last step: what was read of both lists
last_step : (d : Option Shift) (form new : ViaForm) (origin own : Origin) (e f : BoardError) → IsMovedRawPoint d form.at new.at → new.size ≡ form.size → new.drill ≡ form.drill → new.micro ≡ form.micro → new.blind ≡ form.blind
    → own.name ≡ origin.name → own.net ≡ origin.net → own.layers ≡ origin.layers
    → IfAccepted (ReadsCarried (shift_of d) own.unit) (needed e (via_at form origin)) (needed f (via_at new own))
last_step d form new origin own e f a es ed em eb en et el =
    leads_tested (ReadsCarried (shift_of d) own.unit) e (is_via form) _ (needed f (via_at new own))
    (λ fits. (
      refl,
      λ moved c on_board of_unit.
          let k = (near_ends fits moved.copper c.copper).1 in
          let at : new.at ≡ moved_raw_point (shift_of d) form.at = settled d form.at new.at a k.start_x k.start_y in
          let same : new ≡ moved_form (shift_of d) form =
          ap (λ (z : RawPoint). let t : ViaForm = record new { at = z } in t) at
          ∙ ap (λ (z : ℤ). let t : ViaForm = record { at = moved_raw_point (shift_of d) form.at; size = z; drill = new.drill; micro = new.micro; blind = new.blind } in t) es
          ∙ ap (λ (z : Option ℤ). let t : ViaForm = record { at = moved_raw_point (shift_of d) form.at; size = form.size; drill = z; micro = new.micro; blind = new.blind } in t) ed
          ∙ ap (λ (z : Bool). let t : ViaForm = record { at = moved_raw_point (shift_of d) form.at; size = form.size; drill = form.drill; micro = z; blind = new.blind } in t) em
          ∙ ap (λ (z : Bool). let t : ViaForm = record { at = moved_raw_point (shift_of d) form.at; size = form.size; drill = form.drill; micro = form.micro; blind = z } in t) eb in
          let of_other : own ≡ record { name = own.name; unit = own.unit; net = origin.net; layers = origin.layers } =
          ap (λ (n : ℕ). let o : Origin = record { name = own.name; unit = own.unit; net = n; layers = own.layers } in o) et
          ∙ ap (λ (l : LayerSet). let o : Origin = record { name = own.name; unit = own.unit; net = origin.net; layers = l } in o) el in
          ap (λ (t : ViaForm). needed f (via_at t own)) same
          ∙ ap (λ (o : Origin). needed f (via_at (moved_form (shift_of d) form) o)) of_other
          ∙ from_part (shift_of d) form origin fits own.name own.unit f moved moved.copper c.copper refl (c.name ∙ sym en) of_unit c.net c.x c.y c.hole c.local c.what,
    ))
  where
    near_ends : (fits : is_via form ≡ true) (parts : List Part)
        → AreShifted (pos 2 *ℤ (shift_of d).dx) (pos 2 *ℤ (shift_of d).dy) (record { layers = origin.layers; shape = strip_shape (disc form form.size) (front _ _ fits) } ∷ []) parts
        → (shape : Shape) × StripCarried (shift_of d) (disc form form.size) shape
    near_ends fits [] h = absurd h
    near_ends fits (p ∷ ps) h = (p.shape, strip_carried (shift_of d) (disc form form.size) (front _ _ fits) p.shape h.0.shape)

pub via_carried : (d : Option Shift) (board other : PlainBoard) → board.copper ≡ other.copper → ((n : ℕ) → name_of board n ≡ name_of other n) → (unit own : ℕ) (i j : Forest) (s r : Span) → Translated d i j
    → IfAccepted (ReadsCarried (shift_of d) own) (via_of board unit (branch s i)) (via_of other own (branch r j))
unfolding via_of
via_carried d board other layers nets unit own i j s r h =
    let Q = ReadsCarried (shift_of d) own in
    let one : Tree = branch s i in
    let two : Tree = branch r j in
    leads_bind (IsMovedRawPoint d) Q (raw_point_of (codes "at") one) (raw_point_of (codes "at") two) _ _ (raw_point_translated d (codes "at") refl i j s r h) (λ a a' ea.
    leads_bind Same Q (size_of (codes "size") one) (size_of (codes "size") two) _ _ (size_translated d (codes "size") refl i j s r h) (λ w w' ew.
    leads_bind Same Q (in_given size_at (element (codes "drill") one)) (in_given size_at (element (codes "drill") two)) _ _ (size_given d (codes "drill") refl i j s r h) (λ m m' em.
    leads_bind Same Q (in_needed (layers_through board.copper) one (element (codes "layers") one)) (in_needed (layers_through other.copper) two (element (codes "layers") two)) _ _
    (subst (λ (l : LayerSet). Agrees Same (in_needed (layers_through board.copper) one (element (codes "layers") one)) (in_needed (layers_through l) two (element (codes "layers") two))) layers
    (needed_translated Same d (codes "layers") (layers_through board.copper) (layers_through board.copper) one two i j s r h (λ x y k e. through_translated d board.copper x y (inside_by_head d x y (codes "layers") k e refl)))) (λ l l' el.
    leads_bind Same Q (net_of board one) (net_of other two) _ _ (net_translated d board other nets i j s r h) (λ n n' en.
    last_step d (record { at = a; size = w; drill = m; micro = has_word (codes "micro") one; blind = has_word (codes "blind") one })
    (record { at = a'; size = w'; drill = m'; micro = has_word (codes "micro") two; blind = has_word (codes "blind") two })
    (record { name = name_in one; unit = unit; net = n; layers = l })
    (record { name = name_in two; unit = own; net = n'; layers = l' }) (OutOfBoard (place one)) (OutOfBoard (place two)) ea ew em
    (word_translated d (codes "micro") i j s r h) (word_translated d (codes "blind") i j s r h) (sym (name_translated d i j s r h)) en el)))))
