-- Graphics and texts of lists equal up to translation: the items that they give are carried.
use Rattle.std.proofs.Common.{◌≡◌, ◌∙◌, refl, sym, ap, subst, ℕ, ℤ, pos, ◌+ℤ◌, ◌*ℤ◌, ◌≤ℤ◌, Bool, true, false, not, ◌||◌, cond, List, [], ◌∷◌, codes, Option, None, Some, Result, Ok, Err}
use Rattle.std.specs.Prelude.{int_le, MatchBool, unwrap_or}
use Rattle.std.specs.List.{AllZip}
use Rattle.int_algebra.proofs.Tested.{front, back, le_by_test}
use Rattle.sexpr_read.specs.declared.place.Span.{Span}
use Rattle.sexpr_read.specs.Tree.{Forest, Tree, branch}
use Rattle.board_errors.specs.declared.errors.BoardError.{BoardError}
use Rattle.board_errors.specs.declared.errors.BoardError.TheVariants.{OutOfBoard, Ring}
use Rattle.copper_layers.specs.declared.set.LayerSet.{LayerSet}
use Rattle.one_item.specs.declared.parts.Part.{Part}
use Rattle.one_item.specs.declared.item.About.{About}
use Rattle.one_item.specs.declared.item.Hole.{Hole}
use Rattle.one_item.specs.declared.item.What.TheVariants.{Graphic, Edge}
use Rattle.one_item.specs.declared.item.Item.{Item}
use Rattle.one_item.specs.Positions.{is_near, is_on_board}
use Rattle.board_items.specs.Boards.{PlainBoard, name_of}
use Rattle.copper_layers.specs.Layers.{single_layer}
use Rattle.one_item.specs.ItemMoves.{AreShifted, HoleIsShifted}
use Rattle.one_item.specs.ItemKinds.{is_note}
use Rattle.part_read.specs.declared.numbers.RawPoint.{RawPoint}
use Rattle.part_read.specs.declared.placements.Placement.{Placement}
use Rattle.part_read.specs.declared.drawings.GraphicKind.{GraphicKind}
use Rattle.part_read.specs.declared.figures.Figure.{Figure}
use Rattle.part_read.specs.declared.figures.Figure.TheVariants.{Line, Rect, Circle, Outline}
use Rattle.part_read.specs.declared.figures.Drawing.{Drawing}
use Rattle.part_read.specs.declared.graphics.LayerRole.{LayerRole}
use Rattle.part_read.specs.declared.graphics.LayerRole.TheVariants.{Copper, Outlines, Front, Back, Elsewhere}
use Rattle.list_read.specs.FirstRefusals.{◌>>=◌, needed, check}
use Rattle.list_read.specs.ListHeads.{place, is_value, is_text, has_head}
use Rattle.list_read.specs.NamedElements.{element}
use Rattle.part_read.specs.ElementResults.{atom_of, text_in, name_among, name_in}
use Rattle.part_read.specs.PlainItems.{plain_item}
use Rattle.part_read.specs.BoardLayers.{is_all_copper, is_outer, layer_in, drawn_on}
use Rattle.part_read.specs.NetsOf.{net_of}
use Rattle.part_read.specs.Placements.{stood}
use Rattle.part_read.specs.Figures.{drawn, drawn_edge, first_raw_point, is_ring, is_circle}
use Rattle.part_read.specs.Drawings.{drawing_of}
use Rattle.part_read.specs.Graphics.{layer_role_by, layer_role_among, layer_role_of, copper_graphic, edge_graphic, note_of, one_item, graphic_by, curve_by, text_by}
use Rattle.roundtrip_lists.specs.Translated.{Shift, Translated}
use Rattle.roundtrip_lists.specs.Agreeing.{Agrees, BothAgree, Same, SameAtom, FoundTranslated}
use Rattle.roundtrip_lists.specs.Carried.{IsCarried, Becomes, of_unit, IfAccepted, ReadsCarried, ReadsItems}
use Rattle.roundtrip_lists.specs.Moved.{moved_raw_point, IsMovedRawPoint}
use Rattle.roundtrip_lists.proofs.Elements.{agrees_bind, agrees_both, element_translated, inside_by_head, same_value, atom_translated}
use Rattle.roundtrip_lists.proofs.Numbers.{layer_in_translated, name_translated, net_translated}
use Rattle.roundtrip_lists.proofs.Shapes.{one_item as same_item, leads_bind}
use Rattle.roundtrip_lists.specs.Drawn.{FigureRead, DrawingRead}
use Rattle.roundtrip_lists.proofs.Drawings.{drawing_translated}
use Rattle.roundtrip_lists.proofs.Drawn.{Placements, drawn_carried, edge_carried}
use Rattle.roundtrip_lists.proofs.Steps.{leads_check, leads_needed}

-- ---- tests on figures

pub ring_same : (o : Option Shift) (figure other : Figure) (w : ℤ) (filled : Bool) → FigureRead o figure other
    → is_ring (record { figure = other; width = w; filled = filled }) ≡ is_ring (record { figure = figure; width = w; filled = filled })
ring_same o (Line a b) (Line c e) w filled h = refl
ring_same o (Line a b) (Rect c e) w filled h = absurd h
ring_same o (Line a b) (Circle c r) w filled h = absurd h
ring_same o (Line a b) (Outline ts) w filled h = absurd h
ring_same o (Rect a b) (Line c e) w filled h = absurd h
ring_same o (Rect a b) (Rect c e) w filled h = refl
ring_same o (Rect a b) (Circle c r) w filled h = absurd h
ring_same o (Rect a b) (Outline ts) w filled h = absurd h
ring_same o (Circle a q) (Line c e) w filled h = absurd h
ring_same o (Circle a q) (Rect c e) w filled h = absurd h
ring_same o (Circle a q) (Circle c r) w filled h = refl
ring_same o (Circle a q) (Outline ts) w filled h = absurd h
ring_same o (Outline ss) (Line c e) w filled h = absurd h
ring_same o (Outline ss) (Rect c e) w filled h = absurd h
ring_same o (Outline ss) (Circle c r) w filled h = absurd h
ring_same o (Outline ss) (Outline ts) w filled h = refl

circle_same : (o : Option Shift) (figure other : Figure) → FigureRead o figure other → is_circle other ≡ is_circle figure
circle_same o (Line a b) (Line c e) h = refl
circle_same o (Line a b) (Rect c e) h = absurd h
circle_same o (Line a b) (Circle c r) h = absurd h
circle_same o (Line a b) (Outline ts) h = absurd h
circle_same o (Rect a b) (Line c e) h = absurd h
circle_same o (Rect a b) (Rect c e) h = refl
circle_same o (Rect a b) (Circle c r) h = absurd h
circle_same o (Rect a b) (Outline ts) h = absurd h
circle_same o (Circle a q) (Line c e) h = absurd h
circle_same o (Circle a q) (Rect c e) h = absurd h
circle_same o (Circle a q) (Circle c r) h = refl
circle_same o (Circle a q) (Outline ts) h = absurd h
circle_same o (Outline ss) (Line c e) h = absurd h
circle_same o (Outline ss) (Rect c e) h = absurd h
circle_same o (Outline ss) (Circle c r) h = absurd h
circle_same o (Outline ss) (Outline ts) h = refl

first_moved : (o : Option Shift) (figure other : Figure) → FigureRead o figure other → IsMovedRawPoint o (first_raw_point figure) (first_raw_point other)
first_moved o (Line a b) (Line c e) h = h.0
first_moved o (Line a b) (Rect c e) h = absurd h
first_moved o (Line a b) (Circle c r) h = absurd h
first_moved o (Line a b) (Outline ts) h = absurd h
first_moved o (Rect a b) (Line c e) h = absurd h
first_moved o (Rect a b) (Rect c e) h = h.0
first_moved o (Rect a b) (Circle c r) h = absurd h
first_moved o (Rect a b) (Outline ts) h = absurd h
first_moved o (Circle a q) (Line c e) h = absurd h
first_moved o (Circle a q) (Rect c e) h = absurd h
first_moved o (Circle a q) (Circle c r) h = h.centers
first_moved o (Circle a q) (Outline ts) h = absurd h
first_moved o (Outline ss) (Line c e) h = absurd h
first_moved o (Outline ss) (Rect c e) h = absurd h
first_moved o (Outline ss) (Circle c r) h = absurd h
first_moved o (Outline []) (Outline ts) h = let k = h.enough in absurd cc
first_moved o (Outline (s ∷ ss)) (Outline []) h = absurd h.each
first_moved o (Outline (s ∷ ss)) (Outline (t ∷ ts)) h = h.each.0

-- ---- parts that are none

pub no_parts : (dx dy : ℤ) (parts : List Part) → AreShifted dx dy [] parts → parts ≡ []
no_parts dx dy [] h = refl
no_parts dx dy (p ∷ ps) h = absurd h

pub no_hole : (dx dy : ℤ) (hole : Option Hole) → HoleIsShifted dx dy None hole → hole ≡ None
no_hole dx dy None h = refl
no_hole dx dy (Some x) h = absurd h

-- ---- roles of layers

pub text_same : (t u : Tree) (word : List ℕ) → SameAtom t u → is_text u word ≡ is_text t word
text_same t u word h = ap (λ (v : Option (List ℕ)). is_value v word) (sym (same_value t u h))

drawn_on_translated : (copper : LayerSet) (t u : Tree) → SameAtom t u → Agrees Same (drawn_on copper t) (drawn_on copper u)
unfolding drawn_on
drawn_on_translated copper t u h =
    subst (λ (b : Bool). Agrees Same (drawn_on_by (is_all_copper t || is_outer t) t) (drawn_on_by b u)) (sym same) (by_test (is_all_copper t || is_outer t))
  where
    drawn_on_by : Bool → Tree → Result (Option ℕ) BoardError
    drawn_on_by b atom = cond b (Ok None) (layer_in copper atom)

    same : (is_all_copper u || is_outer u) ≡ (is_all_copper t || is_outer t)
    same = ap (λ (b : Bool). b || is_outer u) (text_same t u (codes "*.Cu") h) ∙ ap (λ (b : Bool). is_all_copper t || b) (text_same t u (codes "F&B.Cu") h)

    by_test : (b : Bool) → Agrees Same (drawn_on_by b t) (drawn_on_by b u)
    by_test true = refl
    by_test false = layer_in_translated copper t u h

layer_role_same : (t u : Tree) (layer : Option ℕ) → SameAtom t u → layer_role_by u layer ≡ layer_role_by t layer
layer_role_same t u (Some layer) h = refl
layer_role_same t u None h =
    ap (λ (b : Bool). cond b Outlines (cond (is_text u (codes "F.CrtYd")) Front (cond (is_text u (codes "B.CrtYd")) Back Elsewhere))) (text_same t u (codes "Edge.Cuts") h)
    ∙ ap (λ (b : Bool). cond (is_text t (codes "Edge.Cuts")) Outlines (cond b Front (cond (is_text u (codes "B.CrtYd")) Back Elsewhere))) (text_same t u (codes "F.CrtYd") h)
    ∙ ap (λ (b : Bool). cond (is_text t (codes "Edge.Cuts")) Outlines (cond (is_text t (codes "F.CrtYd")) Front (cond b Back Elsewhere))) (text_same t u (codes "B.CrtYd") h)

pub layer_role_translated : (d : Option Shift) (copper : LayerSet) (i j : Forest) (s r : Span) → Translated d i j → Agrees Same (layer_role_of copper (branch s i)) (layer_role_of copper (branch r j))
unfolding layer_role_of
layer_role_translated d copper i j s r h = by_found (element (codes "layer") (branch s i)) (element (codes "layer") (branch r j)) (element_translated d (codes "layer") s r i j h)
  where
    by_found : (o p : Option Tree) → FoundTranslated d (has_head (codes "layer")) o p → Agrees Same (layer_role_among copper o) (layer_role_among copper p)
    by_found None None k = refl
    by_found None (Some y) k = absurd k
    by_found (Some x) None k = absurd k
    by_found (Some x) (Some y) k =
        agrees_bind SameAtom Same (atom_of 1 x) (atom_of 1 y) _ _ (agrees_both SameAtom (atom_of 1 x) (atom_of 1 y) (atom_translated d 1 x y (inside_by_head d x y (codes "layer") k.0 k.1 refl)))
        (λ a b m. agrees_bind Same Same (drawn_on copper a) (drawn_on copper b) _ _ (drawn_on_translated copper a b m)
        (λ v w e. ap (λ (z : Option ℕ). layer_role_by b z) e ∙ layer_role_same a b v m))

-- the name of the layer
layer_name : (d : Option Shift) (i j : Forest) (s r : Span) → Translated d i j → name_among (element (codes "layer") (branch r j)) ≡ name_among (element (codes "layer") (branch s i))
layer_name d i j s r h = by_found (element (codes "layer") (branch s i)) (element (codes "layer") (branch r j)) (element_translated d (codes "layer") s r i j h)
  where
    by_atoms : (a b : Result Tree BoardError) → BothAgree SameAtom a b → text_in b ≡ text_in a
    by_atoms (Ok p) (Ok q) k = ap (λ (v : Option (List ℕ)). unwrap_or v []) (sym (same_value p q k))
    by_atoms (Ok p) (Err e) k = absurd k
    by_atoms (Err e) (Ok q) k = absurd k
    by_atoms (Err e) (Err g) k = refl

    by_found : (o p : Option Tree) → FoundTranslated d (has_head (codes "layer")) o p → name_among p ≡ name_among o
    by_found None None k = refl
    by_found None (Some y) k = absurd k
    by_found (Some x) None k = absurd k
    by_found (Some x) (Some y) k = by_atoms (atom_of 1 x) (atom_of 1 y) (atom_translated d 1 x y (inside_by_head d x y (codes "layer") k.0 k.1 refl))

-- ---- items

zero_from : (w : ℤ) → int_le (pos 0) w ≡ true → pos 0 ≤ℤ w
zero_from w h = le_by_test (pos 0) w h

pub carried_by : (d : Shift) (i c : Item) → is_note i.what ≡ false → Becomes d i c → IsCarried d i c × (is_on_board c ≡ true)
carried_by d i c e h = subst (λ (b : Bool). MatchBool b (c ≡ i) (IsCarried d i c × (is_on_board c ≡ true))) e h

in_unit : (own : ℕ) (d : Shift) (i c : Item) → IsCarried d i c → IsCarried d i (record c { unit = own })
in_unit own d i c h = record { name = h.name; net = h.net; x = h.x; y = h.y; copper = h.copper; hole = h.hole; local = h.local; what = h.what }

pub none_at : (d : Shift) (own : ℕ) → ReadsItems d own [] (Ok [])
none_at d own [] h = refl
none_at d own (c ∷ now) h = absurd h

-- a list of one item that is carried
pub one_read : (d : Shift) (own : ℕ) (a b : Result Item BoardError) → IfAccepted (ReadsCarried d own) a b → IfAccepted (ReadsItems d own) (one_item a) (one_item b)
one_read d own (Err e) b h = tt
one_read d own (Ok item) b h = by_now
  where
    by_now : (now : List Item) → AllZip (Becomes d) (item ∷ []) now → one_item b ≡ Ok (of_unit own now)
    by_now [] k = absurd k
    by_now (c ∷ e ∷ now) k = absurd k.1
    by_now (c ∷ []) k = let m = carried_by d item c h.0 k.0 in ap one_item (h.1 (record c { unit = own }) (in_unit own d item c m.0) m.1 refl)

module _ (o : Option Shift) (d : Shift) (placement new : Placement) (placements : Placements o d placement new) where
  -- where it is said to be
  placed : (figure other : Figure) (moved : Item) → FigureRead o figure other → moved.x ≡ (stood placement (first_raw_point figure)).x +ℤ d.dx → moved.y ≡ (stood placement (first_raw_point figure)).y +ℤ d.dy → is_on_board moved ≡ true
      → stood new (first_raw_point other) ≡ moved_raw_point d (stood placement (first_raw_point figure))
  placed figure other moved h x y there =
      placements.stands (first_raw_point figure) (first_raw_point other) (first_moved o figure other h) (subst (λ (z : ℤ). is_near z ≡ true) x (front _ _ there)) (subst (λ (z : ℤ). is_near z ≡ true) y (back _ _ there))

  module _ (board other : PlainBoard) (nets : (n : ℕ) → name_of board n ≡ name_of other n) (unit own : ℕ) (kind : GraphicKind) (i j : Forest) (s r : Span) (h : Translated o i j) where
    abbrev one : Tree
    one = branch s i

    abbrev two : Tree
    two = branch r j

    copper_step : (layer n : ℕ) (x : Drawing) (figure : Figure) → FigureRead o x.figure figure → int_le (pos 0) x.width ≡ true
        → IfAccepted (ReadsCarried d own)
        (check (Ring (place one)) (not (is_ring x)) >>= λ solid. (needed (OutOfBoard (place one)) (drawn (single_layer layer) placement x) >>= λ copper. Ok (plain_item (name_in one) unit n (stood placement (first_raw_point x.figure)) copper Graphic refl)))
        (check (Ring (place two)) (not (is_ring (record x { figure = figure }))) >>= λ solid. (needed (OutOfBoard (place two)) (drawn (single_layer layer) new (record x { figure = figure })) >>= λ copper. Ok (plain_item (name_in two) own n (stood new (first_raw_point figure)) copper Graphic refl)))
    copper_step layer n x figure read wide =
        leads_check (ReadsCarried d own) (not (is_ring x)) (not (is_ring (record x { figure = figure }))) _ _ _ _ (ap not (ring_same o x.figure figure x.width x.filled read)) (λ solid.
        leads_needed (ReadsCarried d own) (OutOfBoard (place one)) (drawn (single_layer layer) placement x) _ _ (λ parts some. (
          refl,
          λ moved c there of.
              let drawn_there : drawn (single_layer layer) new (record x { figure = figure }) ≡ Some moved.copper =
              drawn_carried o d placement new placements (single_layer layer) x figure parts moved.copper read (zero_from x.width wide) some c.copper in
              let at : stood new (first_raw_point figure) ≡ moved_raw_point d (stood placement (first_raw_point x.figure)) = placed x.figure figure moved read c.x c.y there in
              ap (λ (z : Option (List Part)). needed (OutOfBoard (place two)) z >>= λ copper. Ok (plain_item (name_in two) own n (stood new (first_raw_point figure)) copper Graphic refl)) drawn_there
              ∙ ap (λ (z : Item). let a : Result Item BoardError = Ok z in a)
              (sym (same_item moved _ (c.name ∙ name_translated o i j s r h) of c.net (c.x ∙ ap (λ (z : RawPoint). z.x) (sym at)) (c.y ∙ ap (λ (z : RawPoint). z.y) (sym at)) refl (no_hole (pos 2 *ℤ d.dx) (pos 2 *ℤ d.dy) moved.hole c.hole) c.local c.what)),
        )))

    pub copper_carried : (layer : ℕ) → IfAccepted (ReadsCarried d own) (copper_graphic board unit placement kind layer one) (copper_graphic other own new kind layer two)
    unfolding copper_graphic
    copper_carried layer =
        leads_bind (DrawingRead o) (ReadsCarried d own) (drawing_of kind one) (drawing_of kind two) _ _ (drawing_translated o i j s r h kind) (λ x y read.
        leads_bind Same (ReadsCarried d own) (net_of board one) (net_of other two) _ _ (net_translated o board other nets i j s r h) (λ n m same.
        subst (λ (k : ℕ). IfAccepted (ReadsCarried d own) (from_net layer x one unit placement n) (from_net layer y two own new k)) (sym same)
        (subst (λ (z : Drawing). IfAccepted (ReadsCarried d own) (from_net layer x one unit placement n) (from_net layer z two own new n)) (sym read.is) (copper_step layer n x read.figure read.figures read.wide))))
      where
        from_net : ℕ → Drawing → Tree → ℕ → Placement → ℕ → Result Item BoardError
        from_net layer x tree unit placement n =
            check (Ring (place tree)) (not (is_ring x)) >>= λ solid. (needed (OutOfBoard (place tree)) (drawn (single_layer layer) placement x) >>= λ copper. Ok (plain_item (name_in tree) unit n (stood placement (first_raw_point x.figure)) copper Graphic refl))

    edge_step : (x : Drawing) (figure : Figure) → FigureRead o x.figure figure
        → IfAccepted (ReadsCarried d own)
        (check (Ring (place one)) (not (is_circle x.figure)) >>= λ round. (needed (OutOfBoard (place one)) (drawn_edge placement x) >>= λ lines. Ok (plain_item (name_in one) unit 0 (stood placement (first_raw_point x.figure)) [] (Edge lines) refl)))
        (check (Ring (place two)) (not (is_circle figure)) >>= λ round. (needed (OutOfBoard (place two)) (drawn_edge new (record x { figure = figure })) >>= λ lines. Ok (plain_item (name_in two) own 0 (stood new (first_raw_point figure)) [] (Edge lines) refl)))
    edge_step x figure read =
        leads_check (ReadsCarried d own) (not (is_circle x.figure)) (not (is_circle figure)) _ _ _ _ (ap not (circle_same o x.figure figure read)) (λ round.
        leads_needed (ReadsCarried d own) (OutOfBoard (place one)) (drawn_edge placement x) _ _ (λ lines some. (
          refl,
          λ moved c there of.
              let drawn_there : drawn_edge new (record x { figure = figure }) ≡ Some c.what.0 = edge_carried o d placement new placements x figure lines c.what.0 read some c.what.2 in
              let at : stood new (first_raw_point figure) ≡ moved_raw_point d (stood placement (first_raw_point x.figure)) = placed x.figure figure moved read c.x c.y there in
              ap (λ (z : Option (List Part)). needed (OutOfBoard (place two)) z >>= λ lines. Ok (plain_item (name_in two) own 0 (stood new (first_raw_point figure)) [] (Edge lines) refl)) drawn_there
              ∙ ap (λ (z : Item). let a : Result Item BoardError = Ok z in a)
              (sym (same_item moved _ (c.name ∙ name_translated o i j s r h) of c.net (c.x ∙ ap (λ (z : RawPoint). z.x) (sym at)) (c.y ∙ ap (λ (z : RawPoint). z.y) (sym at)) (no_parts (pos 2 *ℤ d.dx) (pos 2 *ℤ d.dy) moved.copper c.copper) (no_hole (pos 2 *ℤ d.dx) (pos 2 *ℤ d.dy) moved.hole c.hole) c.local c.what.1)),
        )))

    pub edge_is_carried : IfAccepted (ReadsCarried d own) (edge_graphic unit placement kind one) (edge_graphic own new kind two)
    unfolding edge_graphic
    edge_is_carried =
        leads_bind (DrawingRead o) (ReadsCarried d own) (drawing_of kind one) (drawing_of kind two) _ _ (drawing_translated o i j s r h kind) (λ x y read.
        subst (λ (z : Drawing). IfAccepted (ReadsCarried d own) (from_drawing x one unit placement) (from_drawing z two own new)) (sym read.is) (edge_step x read.figure read.figures))
      where
        from_drawing : Drawing → Tree → ℕ → Placement → Result Item BoardError
        from_drawing x tree unit placement =
            check (Ring (place tree)) (not (is_circle x.figure)) >>= λ round. (needed (OutOfBoard (place tree)) (drawn_edge placement x) >>= λ lines. Ok (plain_item (name_in tree) unit 0 (stood placement (first_raw_point x.figure)) [] (Edge lines) refl))

    -- ---- lists of items

    pub graphic_carried : (lies : LayerRole) → IfAccepted (ReadsItems d own) (graphic_by board unit placement kind one lies) (graphic_by other own new kind two lies)
    graphic_carried (Copper layer) = one_read d own (copper_graphic board unit placement kind layer one) (copper_graphic other own new kind layer two) (copper_carried layer)
    graphic_carried Outlines = one_read d own (edge_graphic unit placement kind one) (edge_graphic own new kind two) edge_is_carried
    graphic_carried Front = none_at d own
    graphic_carried Back = none_at d own
    graphic_carried Elsewhere = none_at d own

-- ---- curves and texts

pub curve_carried : (d : Shift) (own : ℕ) (t u : Tree) (lies : LayerRole) → IfAccepted (ReadsItems d own) (curve_by t lies) (curve_by u lies)
curve_carried d own t u (Copper layer) = tt
curve_carried d own t u Outlines = tt
curve_carried d own t u Front = none_at d own
curve_carried d own t u Back = none_at d own
curve_carried d own t u Elsewhere = none_at d own

-- a note is as it was, but for its unit
pub note_read : (d : Shift) (own unit : ℕ) (about : About) (name layer new_name new_layer : List ℕ) → new_name ≡ name → new_layer ≡ layer
    → ReadsItems d own (note_of name unit about layer ∷ []) (Ok (note_of new_name own about new_layer ∷ []))
note_read d own unit about name layer new_name new_layer en el [] h = absurd h
note_read d own unit about name layer new_name new_layer en el (c ∷ e ∷ now) h = absurd h.1
note_read d own unit about name layer new_name new_layer en el (c ∷ []) h =
    ap (λ (n : List ℕ). let a : Result (List Item) BoardError = Ok (note_of n own about new_layer ∷ []) in a) en
    ∙ ap (λ (l : List ℕ). let a : Result (List Item) BoardError = Ok (note_of name own about l ∷ []) in a) el
    ∙ ap (λ (z : Item). let a : Result (List Item) BoardError = Ok (record z { unit = own } ∷ []) in a) (sym h.0)

pub text_carried : (o : Option Shift) (d : Shift) (own unit : ℕ) (about : About) (i j : Forest) (s r : Span) (lies : LayerRole) → Translated o i j → IfAccepted (ReadsItems d own) (text_by unit about (branch s i) lies) (text_by own about (branch r j) lies)
text_carried o d own unit about i j s r (Copper layer) h =
    note_read d own unit about (name_in (branch s i)) (name_among (element (codes "layer") (branch s i))) (name_in (branch r j)) (name_among (element (codes "layer") (branch r j))) (sym (name_translated o i j s r h)) (layer_name o i j s r h)
text_carried o d own unit about i j s r Outlines h = none_at d own
text_carried o d own unit about i j s r Front h = none_at d own
text_carried o d own unit about i j s r Back h = none_at d own
text_carried o d own unit about i j s r Elsewhere h = none_at d own
