-- A pad whose frame is moved is the pad, moved.
use Rattle.std.proofs.Common.{◌≡◌, ◌∙◌, refl, sym, ap, subst, ℕ, ◌≤◌, ℤ, pos, ◌+ℤ◌, ◌-ℤ◌, ◌*ℤ◌, unsigned_abs, Bool, true, false, ◌&&◌, cond, List, [], ◌∷◌, ◌++◌, Option, None, Some, option_map, option_and_then, arith}
use Rattle.std.proofs.lemmas.Bool.{le-leb}
use Rattle.std.proofs.lemmas.Int.{ints}
use Rattle.int_algebra.proofs.Tested.{front, back, le_by_test}
use Rattle.geo_seg.specs.declared.points.Point.{Point}
use Rattle.geo_seg.specs.declared.shapes.Core.{Core}
use Rattle.geo_seg.specs.declared.shapes.Shape.{Shape}
use Rattle.geo_seg.specs.Shifts.{IsShiftedPoint, IsShiftedShape}
use Rattle.copper_layers.specs.declared.set.LayerSet.{LayerSet}
use Rattle.one_item.specs.declared.parts.Part.{Part}
use Rattle.one_item.specs.declared.item.Hole.{Hole}
use Rattle.one_item.specs.declared.item.Item.{Item}
use Rattle.one_item.specs.Positions.{is_near, is_on_board}
use Rattle.one_item.specs.ItemMoves.{AreShifted, HoleIsShifted}
use Rattle.one_item.specs.ItemKinds.{is_note}
use Rattle.part_read.specs.declared.numbers.RawPoint.{RawPoint}
use Rattle.part_read.specs.declared.placements.Placement.{Placement}
use Rattle.part_read.specs.declared.radii.Radius.{Radius}
use Rattle.part_read.specs.declared.figures.Drawing.{Drawing}
use Rattle.plain_types.specs.Lengths.{is_length}
use Rattle.part_read.specs.There.{both, after}
use Rattle.part_read.specs.OnBoard.{fits_board}
use Rattle.part_read.specs.Figures.{box_core, radius_of, around, drawn}
use Rattle.part_read.proofs.There.{some_same, map_some, then_some, both_some}
use Rattle.part_read.proofs.Shapes.{one_point, one_shape, is_tested}
use Rattle.pad_read.specs.declared.sizes.Sizes.{Sizes}
use Rattle.pad_read.specs.declared.sizes.RoundedRect.{RoundedRect}
use Rattle.pad_read.specs.declared.pads.Frame.{Frame}
use Rattle.pad_read.specs.declared.forms.Form.{Form}
use Rattle.pad_read.specs.declared.labels.Label.{Label}
use Rattle.pad_read.specs.Halves.{is_near_half, fits_half, half_point_at, half_point}
use Rattle.pad_read.specs.PadSizes.{least_of}
use Rattle.pad_read.specs.PadShapes.{oval_rounded_rect, turned_rounded_rect, low_point, high_point, rounded_rect_at}
use Rattle.pad_read.specs.CustomPads.{primitives_fit}
use Rattle.pad_read.specs.PadFrames.{hole_sizes, is_plated}
use Rattle.pad_read.specs.PadOf.{all_drawn, with_part, copper_of, has_copper, middle_of, frame_copper, hole_with, hole_by, hole_of, frame_hole, sizes_fit, some_fit, frame_fits, local_fits, pad_item, pad_with, placed}
use Rattle.roundtrip_lists.specs.Translated.{Shift}
use Rattle.roundtrip_lists.specs.Carried.{ItemsOf, IsCarried}
use Rattle.roundtrip_lists.specs.Moved.{moved_raw_point}
use Rattle.roundtrip_lists.proofs.Figures.{tested_some}
use Rattle.roundtrip_lists.proofs.Shapes.{one_item, one_hole, two_pass}
use Rattle.roundtrip_lists.specs.Drawn.{DrawingRead}
use Rattle.roundtrip_lists.proofs.Cores.{box_moved}
use Rattle.roundtrip_lists.proofs.Drawn.{drawn_carried}
use Rattle.roundtrip_footprints.proofs.Forms.{AreRead, same_drawing}
use Rattle.roundtrip_footprints.proofs.Standing.{stood_moved, moved_placements}
use Rattle.roundtrip_footprints.specs.MovedHeads.{moved_placement}

-- ---- points that count half nanometres

pub point_again : (a b : ℤ) (s t : RawPoint) (p q : Point) → half_point s ≡ Some p → IsShiftedPoint a b p q → t.x ≡ s.x +ℤ a → t.y ≡ s.y +ℤ b → half_point t ≡ Some q
point_again a b s t p q some h ex ey =
    let k = tested_some (fits_half s) (half_point_at s) p some in
    let x : q.x ≡ t.x = h.x ∙ ap (λ (z : Point). z.x +ℤ a) (sym k.1) ∙ sym ex in
    let y : q.y ≡ t.y = h.y ∙ ap (λ (z : Point). z.y +ℤ b) (sym k.1) ∙ sym ey in
    let near_x : is_near_half t.x ≡ true = le-leb (unsigned_abs t.x) 1000000000 (subst (λ (z : ℤ). unsigned_abs z ≤ 1000000000) x q.x_in_range) in
    let near_y : is_near_half t.y ≡ true = le-leb (unsigned_abs t.y) 1000000000 (subst (λ (z : ℤ). unsigned_abs z ≤ 1000000000) y q.y_in_range) in
    sym (is_tested (fits_half t) (half_point_at t) q (λ fits. one_point q (half_point_at t fits) x y) (two_pass (is_near_half t.x) (is_near_half t.y) near_x near_y))

-- ---- rounded rectangles

first_core : {a b : Core} → a ∷ [] ≡ b ∷ [] → a ≡ b
first_core h = cc

low_moved : (s d c : ℤ) → (pos 2 *ℤ (s +ℤ d)) -ℤ c ≡ ((pos 2 *ℤ s) -ℤ c) +ℤ (pos 2 *ℤ d)
low_moved s d c = omega (arith, ints)

high_moved : (s d c : ℤ) → (pos 2 *ℤ (s +ℤ d)) +ℤ c ≡ ((pos 2 *ℤ s) +ℤ c) +ℤ (pos 2 *ℤ d)
high_moved s d c = omega (arith, ints)

module _ (d : Shift) where
  abbrev pub ddx : ℤ
  ddx = pos 2 *ℤ d.dx

  abbrev pub ddy : ℤ
  ddy = pos 2 *ℤ d.dy

  abbrev nowhere : Placement
  nowhere = record { quarter = 0; at = record { x = pos 0; y = pos 0 } }

  pub rounded_rect_again : (s : RawPoint) (c : RoundedRect) (shape other : Shape) → rounded_rect_at s c ≡ Some shape → IsShiftedShape ddx ddy shape other → rounded_rect_at (moved_raw_point d s) c ≡ Some other
  rounded_rect_again s c shape other some h =
      let k = both_some around (radius_of c.radius) (both box_core (low_point s c) (high_point s c)) shape some in
      let l = both_some box_core (low_point s c) (high_point s c) k.1 k.3 in
      let core = subst (λ (z : Shape). IsShiftedShape ddx ddy z other) (k.4 ∙ ap (around k.0) l.4) h in
      let m = box_moved d nowhere nowhere true l.0 l.1 (other.core ∷ []) (core.core, tt) in
      let low = point_again ddx ddy (record { x = (pos 2 *ℤ s.x) -ℤ c.x; y = (pos 2 *ℤ s.y) -ℤ c.y }) (record { x = (pos 2 *ℤ (s.x +ℤ d.dx)) -ℤ c.x; y = (pos 2 *ℤ (s.y +ℤ d.dy)) -ℤ c.y }) l.0 m.one l.2 m.is_one (low_moved s.x d.dx c.x) (low_moved s.y d.dy c.y) in
      let high = point_again ddx ddy (record { x = (pos 2 *ℤ s.x) +ℤ c.x; y = (pos 2 *ℤ s.y) +ℤ c.y }) (record { x = (pos 2 *ℤ (s.x +ℤ d.dx)) +ℤ c.x; y = (pos 2 *ℤ (s.y +ℤ d.dy)) +ℤ c.y }) l.1 m.two l.3 m.is_two (high_moved s.x d.dx c.x) (high_moved s.y d.dy c.y) in
      let same : around k.0 (box_core m.one m.two) ≡ other = one_shape (around k.0 (box_core m.one m.two)) other (sym (first_core m.are)) (sym core.radius) in
      ap (λ (o : Option Radius). both around o (both box_core (low_point (moved_raw_point d s) c) (high_point (moved_raw_point d s) c))) k.2
      ∙ ap (λ (o : Option Point). both around (Some k.0) (both box_core o (high_point (moved_raw_point d s) c))) low
      ∙ ap (λ (o : Option Point). both around (Some k.0) (both box_core (Some m.one) o)) high
      ∙ ap (λ (z : Shape). let o : Option Shape = Some z in o) same

  -- ---- copper

  pub record Split (ps qs others : List Part) : Type 0 where
    pub us : List Part
    pub vs : List Part
    pub are : others ≡ us ++ vs
    pub first : AreShifted ddx ddy ps us
    pub rest : AreShifted ddx ddy qs vs

  pub split : (ps qs others : List Part) → AreShifted ddx ddy (ps ++ qs) others → Split ps qs others
  split [] qs others h = record { us = []; vs = others; are = refl; first = tt; rest = h }
  split (p ∷ ps) qs [] h = absurd h
  split (p ∷ ps) qs (o ∷ others) h =
      let k = split ps qs others h.1 in
      record { us = o ∷ k.us; vs = k.vs; are = ap (λ (l : List Part). o ∷ l) k.are; first = (h.0, k.first); rest = k.rest }

  nothing_more : (parts others : List Part) → [] ≡ parts → AreShifted ddx ddy parts others → (let o : Option (List Part) = Some [] in o) ≡ Some others
  nothing_more [] [] e h = refl
  nothing_more [] (o ∷ others) e h = absurd h
  nothing_more (p ∷ parts) others e h = absurd cc

  drawn_again : (layers : LayerSet) (placement : Placement) (x y : Drawing) (ps us : List Part) → DrawingRead None x y → drawn layers placement x ≡ Some ps → AreShifted ddx ddy ps us → drawn layers (moved_placement d placement) y ≡ Some us
  drawn_again layers placement x y ps us read some h =
      ap (drawn layers (moved_placement d placement)) read.is
      ∙ drawn_carried None d placement (moved_placement d placement) (moved_placements d placement) layers x read.figure ps us read.figures (le_by_test (pos 0) x.width read.wide) some h

  all_again : (layers : LayerSet) (placement : Placement) (ds es : List Drawing) (parts others : List Part) → AreRead ds es → all_drawn layers placement ds ≡ Some parts → AreShifted ddx ddy parts others
      → all_drawn layers (moved_placement d placement) es ≡ Some others
  all_again layers placement [] [] parts others read some h = nothing_more parts others (some_same some) h
  all_again layers placement [] (e ∷ es) parts others read some h = absurd read
  all_again layers placement (x ∷ ds) [] parts others read some h = absurd read
  all_again layers placement (x ∷ ds) (y ∷ es) parts others read some h =
      let k = both_some (λ (ps qs : List Part). ps ++ qs) (drawn layers placement x) (all_drawn layers placement ds) parts some in
      let m = split k.0 k.1 others (subst (λ (l : List Part). AreShifted ddx ddy l others) k.4 h) in
      ap (λ (o : Option (List Part)). both (λ (ps qs : List Part). ps ++ qs) o (all_drawn layers (moved_placement d placement) es)) (drawn_again layers placement x y k.0 m.us read.0 k.2 m.first)
      ∙ ap (after m.us) (all_again layers placement ds es k.1 m.vs read.1 k.3 m.rest)
      ∙ ap (λ (l : List Part). let o : Option (List Part) = Some l in o) (sym m.are)

  front_again : (layers : LayerSet) (shape : Shape) (ps others : List Part) → AreShifted ddx ddy (with_part layers shape ps) others
      → (other : Shape) × (qs : List Part) × IsShiftedShape ddx ddy shape other × AreShifted ddx ddy ps qs × (others ≡ with_part layers other qs)
  front_again layers shape ps [] h = absurd h
  front_again layers shape ps (u ∷ us) h = (u.shape, us, h.0.shape, h.1, ap (λ (l : LayerSet). with_part l u.shape us) h.0.layers)

  copper_again : (layers : LayerSet) (placement : Placement) (f g : Form) (parts others : List Part) → g.rounded_rect ≡ f.rounded_rect → AreRead f.primitives g.primitives → copper_of layers placement f ≡ Some parts → AreShifted ddx ddy parts others
      → copper_of layers (moved_placement d placement) g ≡ Some others
  copper_again layers placement f g parts others rounded_rect read some h =
      let turned = turned_rounded_rect placement.quarter f.rounded_rect in
      let k = both_some (with_part layers) (rounded_rect_at placement.at turned) (all_drawn layers placement f.primitives) parts some in
      let m = front_again layers k.0 k.1 others (subst (λ (l : List Part). AreShifted ddx ddy l others) k.4 h) in
      ap (λ (c : RoundedRect). both (with_part layers) (rounded_rect_at (moved_raw_point d placement.at) (turned_rounded_rect placement.quarter c)) (all_drawn layers (moved_placement d placement) g.primitives)) rounded_rect
      ∙ ap (λ (o : Option Shape). both (with_part layers) o (all_drawn layers (moved_placement d placement) g.primitives)) (rounded_rect_again placement.at turned k.0 m.0 k.2 m.2)
      ∙ ap (option_map (with_part layers m.0)) (all_again layers placement f.primitives g.primitives k.1 m.1 read k.3 m.3)
      ∙ ap (λ (l : List Part). let o : Option (List Part) = Some l in o) (sym m.4)

  -- ---- frames

  abbrev pub moved_frame : Frame → Frame
  moved_frame f = record f { at = moved_raw_point d f.at }

  middle_moved : (f : Frame) → middle_of (moved_frame f) ≡ moved_placement d (middle_of f)
  middle_moved f = ap (λ (s : RawPoint). let m : Placement = record { quarter = f.quarter; at = s } in m) (stood_moved d (record { quarter = f.quarter; at = f.at }) f.drilling.offset)

  frame_again : (layers : LayerSet) (frame : Frame) (f g : Form) (parts others : List Part) → g.rounded_rect ≡ f.rounded_rect → AreRead f.primitives g.primitives → frame_copper layers frame f ≡ Some parts → AreShifted ddx ddy parts others
      → frame_copper layers (moved_frame frame) g ≡ Some others
  frame_again layers frame f g parts others rounded_rect read some h = by_copper (has_copper frame.pad_type layers frame.sizes frame.drilling.sizes) some
    where
      by_copper : (b : Bool) → cond b (copper_of layers (middle_of frame) f) (Some []) ≡ Some parts → cond b (copper_of layers (middle_of (moved_frame frame)) g) (Some []) ≡ Some others
      by_copper true e = ap (λ (m : Placement). copper_of layers m g) (middle_moved frame) ∙ copper_again layers (middle_of frame) f g parts others rounded_rect read e h
      by_copper false e = nothing_more parts others (some_same e) h

  -- ---- holes

  abbrev drilled : Hole → Option Hole
  drilled hole = Some hole

  sized_again : (copper : LayerSet) (at : RawPoint) (quarter : ℕ) (plated : Bool) (s : Sizes) (hole other : Option Hole) → hole_of copper at quarter plated (Some s) ≡ Some hole → HoleIsShifted ddx ddy hole other
      → hole_of copper (moved_raw_point d at) quarter plated (Some s) ≡ Some other
  sized_again copper at quarter plated s hole other some h =
      let c = turned_rounded_rect quarter (oval_rounded_rect s) in
      let k = map_some drilled (option_and_then (hole_by copper plated s) (rounded_rect_at at c)) hole some in
      let l = then_some (hole_by copper plated s) (rounded_rect_at at c) k.0 k.1 in
      let m = tested_some (is_length (least_of s)) (hole_with copper plated s l.0) k.0 l.2 in
      by_other l.0 l.1 m.0 other (subst (λ (o : Option Hole). HoleIsShifted ddx ddy o other) (k.2 ∙ ap drilled (sym m.1)) h)
    where
      by_other : (shape : Shape) → rounded_rect_at at (turned_rounded_rect quarter (oval_rounded_rect s)) ≡ Some shape → (fits : is_length (least_of s) ≡ true) → (other : Option Hole)
          → HoleIsShifted ddx ddy (Some (hole_with copper plated s shape fits)) other → hole_of copper (moved_raw_point d at) quarter plated (Some s) ≡ Some other
      by_other shape e fits None h = absurd h
      by_other shape e fits (Some x) h =
          ap (λ (o : Option Shape). option_map drilled (option_and_then (hole_by copper plated s) o)) (rounded_rect_again at (turned_rounded_rect quarter (oval_rounded_rect s)) shape x.shape e h.shape)
          ∙ ap (option_map drilled) (sym (is_tested (is_length (least_of s)) (hole_with copper plated s x.shape) x (λ fit. one_hole x (hole_with copper plated s x.shape fit) refl h.layers h.plated h.least) fits))

  hole_again : (copper : LayerSet) (at : RawPoint) (quarter : ℕ) (plated : Bool) (s : Option Sizes) (hole other : Option Hole) → hole_of copper at quarter plated s ≡ Some hole → HoleIsShifted ddx ddy hole other
      → hole_of copper (moved_raw_point d at) quarter plated s ≡ Some other
  hole_again copper at quarter plated (Some s) hole other some h = sized_again copper at quarter plated s hole other some h
  hole_again copper at quarter plated None hole other some h = by_none hole other (some_same some) h
    where
      by_none : (hole other : Option Hole) → None ≡ hole → HoleIsShifted ddx ddy hole other → (let o : Option (Option Hole) = Some None in o) ≡ Some other
      by_none None None e h = refl
      by_none None (Some x) e h = absurd h
      by_none (Some x) other e h = absurd cc

  -- ---- the item

  record IsPad (label : Label) (at : RawPoint) (o : Option (List Part)) (p : Option (Option Hole)) (item : Item) : Type 0 where
    parts : List Part
    hole : Option Hole
    fits : local_fits label.local ≡ true
    has_parts : o ≡ Some parts
    has_hole : p ≡ Some hole
    is : pad_item label at parts hole fits ≡ item

  is_pad : (label : Label) (at : RawPoint) (o : Option (List Part)) (p : Option (Option Hole)) (item : Item) → pad_with label at o p ≡ Some item → IsPad label at o p item
  is_pad label at None p item h = absurd cc
  is_pad label at (Some parts) None item h = absurd cc
  is_pad label at (Some parts) (Some hole) item h =
      let k = tested_some (local_fits label.local) (pad_item label at parts hole) item h in
      record { parts = parts; hole = hole; fits = k.0; has_parts = refl; has_hole = refl; is = k.1 }

  -- it is of its unit, and its position lies on the board
  pub placed_stands : (copper layers : LayerSet) (label : Label) (frame : Frame) (f : Form) (item : Item) → placed copper layers label frame f ≡ Some item → (is_note item.what ≡ false) × ItemsOf label.unit (item ∷ [])
  placed_stands copper layers label frame f item some = by_fits (frame_fits frame && primitives_fit f.primitives) refl some
    where
      by_pad : frame_fits frame && primitives_fit f.primitives ≡ true → IsPad label frame.at (frame_copper layers frame f) (frame_hole copper frame) item → (is_note item.what ≡ false) × ItemsOf label.unit (item ∷ [])
      by_pad fits k =
          subst (λ (i : Item). (is_note i.what ≡ false) × ItemsOf label.unit (i ∷ [])) k.is (refl, (refl, front (fits_board frame.at) _ (front (frame_fits frame) _ fits), tt))

      by_fits : (b : Bool) → frame_fits frame && primitives_fit f.primitives ≡ b → cond b (pad_with label frame.at (frame_copper layers frame f) (frame_hole copper frame)) None ≡ Some item
          → (is_note item.what ≡ false) × ItemsOf label.unit (item ∷ [])
      by_fits true e h = by_pad e (is_pad label frame.at (frame_copper layers frame f) (frame_hole copper frame) item h)
      by_fits false e h = absurd cc

  primitives_same : (ds es : List Drawing) → AreRead ds es → es ≡ ds
  primitives_same [] [] h = refl
  primitives_same [] (e ∷ es) h = absurd h
  primitives_same (x ∷ ds) [] h = absurd h
  primitives_same (x ∷ ds) (y ∷ es) h = ap (λ (z : Drawing). z ∷ es) (same_drawing x y h.0) ∙ ap (λ (l : List Drawing). x ∷ l) (primitives_same ds es h.1)

  -- the label of the pad on the other board: of another unit
  abbrev pub label_in : ℕ → Label → Label
  label_in own label = record label { unit = own }

  pub placed_again : (copper layers : LayerSet) (label : Label) (frame : Frame) (f g : Form) (own : ℕ) (item moved : Item) → g.rounded_rect ≡ f.rounded_rect → AreRead f.primitives g.primitives → placed copper layers label frame f ≡ Some item
      → IsCarried d item moved → is_on_board moved ≡ true → moved.unit ≡ own → placed copper layers (label_in own label) (moved_frame frame) g ≡ Some moved
  placed_again copper layers label frame f g own item moved rounded_rect read some carried there of = by_fits (frame_fits frame && primitives_fit f.primitives) refl some
    where
      by_pad : frame_fits frame && primitives_fit f.primitives ≡ true → IsPad label frame.at (frame_copper layers frame f) (frame_hole copper frame) item → placed copper layers (label_in own label) (moved_frame frame) g ≡ Some moved
      by_pad fits k =
          let c = subst (λ (i : Item). IsCarried d i moved) (sym k.is) carried in
          let parts = frame_again layers frame f g k.parts moved.copper rounded_rect read k.has_parts c.copper in
          let hole = hole_again copper frame.at frame.quarter (is_plated frame.pad_type) (hole_sizes frame.pad_type frame.drilling.sizes) k.hole moved.hole k.has_hole c.hole in
          let near_x : is_near (frame.at.x +ℤ d.dx) ≡ true = subst (λ (z : ℤ). is_near z ≡ true) c.x (front (is_near moved.x) (is_near moved.y) there) in
          let near_y : is_near (frame.at.y +ℤ d.dy) ≡ true = subst (λ (z : ℤ). is_near z ≡ true) c.y (back (is_near moved.x) (is_near moved.y) there) in
          let on : fits_board (moved_raw_point d frame.at) ≡ true = two_pass (is_near (frame.at.x +ℤ d.dx)) (is_near (frame.at.y +ℤ d.dy)) near_x near_y in
          let framed : frame_fits (moved_frame frame) ≡ true = two_pass (fits_board (moved_raw_point d frame.at)) (sizes_fit frame.sizes && some_fit frame.drilling.sizes) on (back (fits_board frame.at) (sizes_fit frame.sizes && some_fit frame.drilling.sizes) (front (frame_fits frame) (primitives_fit f.primitives) fits)) in
          let drawn : primitives_fit g.primitives ≡ true = ap primitives_fit (primitives_same f.primitives g.primitives read) ∙ back (frame_fits frame) (primitives_fit f.primitives) fits in
          ap (λ (b : Bool). cond b (pad_with (label_in own label) (moved_raw_point d frame.at) (frame_copper layers (moved_frame frame) g) (frame_hole copper (moved_frame frame))) None) (two_pass (frame_fits (moved_frame frame)) (primitives_fit g.primitives) framed drawn)
          ∙ ap (λ (o : Option (List Part)). pad_with (label_in own label) (moved_raw_point d frame.at) o (frame_hole copper (moved_frame frame))) parts
          ∙ ap (λ (o : Option (Option Hole)). pad_with (label_in own label) (moved_raw_point d frame.at) (Some moved.copper) o) hole
          ∙ sym (is_tested (local_fits label.local) (pad_item (label_in own label) (moved_raw_point d frame.at) moved.copper moved.hole) moved
          (λ fit. one_item moved (pad_item (label_in own label) (moved_raw_point d frame.at) moved.copper moved.hole fit) c.name of c.net c.x c.y refl refl c.local c.what) k.fits)

      by_fits : (b : Bool) → frame_fits frame && primitives_fit f.primitives ≡ b → cond b (pad_with label frame.at (frame_copper layers frame f) (frame_hole copper frame)) None ≡ Some item
          → placed copper layers (label_in own label) (moved_frame frame) g ≡ Some moved
      by_fits true e h = by_pad e (is_pad label frame.at (frame_copper layers frame f) (frame_hole copper frame) item h)
      by_fits false e h = absurd cc
