-- The items of graphics and of notes may stand on the board.
use Rattle.std.proofs.Common.{◌≡◌, refl, ap, sym, subst, ℕ, ◌≤◌, pos, arith, List, [], ◌∷◌, ◌++◌, length, map, All, Bool, true, false, ◌&&◌, cond, leb, not, is_some, IsTrue, Option, None, Some, Result, Ok, Err, codes}
use Rattle.std.specs.List.{list_all}
use Rattle.std.proofs.lemmas.Bool.{leb-true}
use Rattle.std.proofs.lemmas.List.Elements.{All-nil, All-cons}
use Rattle.sexpr_read.specs.Tree.{Tree, parts}
use Rattle.geo_seg.specs.declared.points.Point.{Point}
use Rattle.geo_seg.specs.declared.shapes.Core.{Core}
use Rattle.board_errors.specs.declared.errors.BoardError.{BoardError}
use Rattle.copper_layers.specs.declared.set.LayerSet.{LayerSet}
use Rattle.one_item.specs.declared.parts.Part.{Part}
use Rattle.one_item.specs.declared.item.About.{About}
use Rattle.one_item.specs.declared.item.What.TheVariants.{Graphic, Edge}
use Rattle.one_item.specs.declared.item.Item.{Item}
use Rattle.copper_layers.specs.Layers.{has_layer, is_within, single_layer}
use Rattle.board_items.specs.Boards.{PlainBoard, name_of, is_admitted}
use Rattle.copper_layers.proofs.LayerLemmas.{single_within}
use Rattle.part_read.specs.declared.numbers.RawPoint.{RawPoint}
use Rattle.part_read.specs.declared.placements.Placement.{Placement}
use Rattle.part_read.specs.declared.radii.Radius.{Radius}
use Rattle.part_read.specs.declared.figures.Figure.{Figure}
use Rattle.part_read.specs.declared.figures.Figure.TheVariants.{Line, Rect, Circle, Outline}
use Rattle.part_read.specs.declared.figures.Drawing.{Drawing}
use Rattle.part_read.specs.declared.drawings.GraphicKind.{GraphicKind}
use Rattle.part_read.specs.declared.drawings.GraphicKind.TheVariants.{Line as LineKind, Rect as RectKind, Circle as CircleKind, Outline as OutlineKind}
use Rattle.part_read.specs.declared.graphics.LayerRole.{LayerRole}
use Rattle.part_read.specs.declared.graphics.LayerRole.TheVariants.{Copper, Outlines, Front, Back, Elsewhere}
use Rattle.list_read.specs.FirstRefusals.{◌>>=◌, needed, check}
use Rattle.list_read.specs.ListHeads.{place}
use Rattle.list_read.specs.NamedElements.{element}
use Rattle.part_read.specs.ElementResults.{given_or, atom_of, name_among, name_in}
use Rattle.board_errors.specs.declared.errors.BoardError.TheVariants.{Missing, OutOfBoard, Ring}
use Rattle.plain_types.specs.Lengths.{is_length}
use Rattle.part_read.specs.OnBoard.{tested, fits_board, point_at}
use Rattle.part_read.specs.NetsOf.{declared_in, net_of}
use Rattle.part_read.specs.BoardNumbers.{number_in, raw_point_of}
use Rattle.part_read.specs.Placements.{stood, point_stood, points_stood}
use Rattle.part_read.specs.Figures.{cores_of, around, drawn, drawn_edge, first_of, first_raw_point, is_ring, is_circle}
use Rattle.part_read.specs.Drawings.{raw_points_among, enough, corners_in, corners_of, width_of, fill_of, line_drawing, rect_drawing, circle_drawing, outline_drawing, drawing_of}
use Rattle.part_read.specs.LayerRoles.{HasLayerOfRole}
use Rattle.part_read.specs.PlainItems.{plain_item}
use Rattle.part_read.specs.Ready.{IsReady}
use Rattle.part_read.specs.Graphics.{copper_graphic, edge_graphic, note_of, graphic_by, text_by}
use Rattle.part_read.proofs.There.{map_some, both_some}
use Rattle.part_read.proofs.Layering.{none_within}
use Rattle.part_read.proofs.Reach.{both_ok}

-- ---- what an answer was made of

needed_ok : {A : Type 0} (e : BoardError) (o : Option A) (x : A) → needed e o ≡ Ok x → o ≡ Some x
needed_ok e None x h = absurd cc
needed_ok e (Some y) x h = let s : y ≡ x = cc in ap (λ (z : _). Some z) s

same_ok : {A : Type 0} {x y : A} → (let r : Result A BoardError = Ok x in r) ≡ Ok y → x ≡ y
same_ok h = cc

-- ---- outlines have a first raw point

abbrev pub IsStarted : Figure → Type 0
IsStarted (Outline raw_points) = 1 ≤ length raw_points
IsStarted figure = Unit {0}

started_by : (e : BoardError) (raw_points corners : List RawPoint) (b : Bool) → leb 3 (length raw_points) ≡ b → (check e b >>= λ _. Ok raw_points) ≡ Ok corners → 1 ≤ length corners
started_by e raw_points corners true k h =
    let same : raw_points ≡ corners = same_ok h in
    let some = leb-true 3 (length raw_points) k in
    subst (λ (ss : List RawPoint). 1 ≤ length ss) same (omega (arith, some))
started_by e raw_points corners false k h = absurd cc

corners_started : (tree : Tree) (corners : List RawPoint) → corners_of tree ≡ Ok corners → 1 ≤ length corners
unfolding corners_in
corners_started tree corners h =
    let a = both_ok (needed _ (element (codes "pts") tree)) corners_in corners h in
    let b = both_ok (raw_points_among false (parts a.0)) (enough a.0) corners a.1.1 in
    started_by (Missing (place a.0)) b.0 corners (leb 3 (length b.0)) refl b.1.1

moved_start : {d e : Drawing} → d ≡ e → IsStarted d.figure → IsStarted e.figure
moved_start {d} {e} h k = subst (λ (x : Drawing). IsStarted x.figure) h k

line_started : (tree : Tree) (d : Drawing) → line_drawing tree ≡ Ok d → IsStarted d.figure
unfolding line_drawing
line_started tree d h =
    let a = both_ok (raw_point_of (codes "start") tree) _ d h in
    let b = both_ok (raw_point_of (codes "end") tree) _ d a.1.1 in
    let c = both_ok (width_of tree) _ d b.1.1 in
    moved_start (same_ok c.1.1) tt

rect_started : (tree : Tree) (d : Drawing) → rect_drawing tree ≡ Ok d → IsStarted d.figure
unfolding rect_drawing
rect_started tree d h =
    let a = both_ok (raw_point_of (codes "start") tree) _ d h in
    let b = both_ok (raw_point_of (codes "end") tree) _ d a.1.1 in
    let c = both_ok (width_of tree) _ d b.1.1 in
    let f = both_ok (fill_of false tree) _ d c.1.1 in
    moved_start (same_ok f.1.1) tt

circle_started : (tree : Tree) (d : Drawing) → circle_drawing tree ≡ Ok d → IsStarted d.figure
unfolding circle_drawing
circle_started tree d h =
    let a = both_ok (raw_point_of (codes "center") tree) _ d h in
    let b = both_ok (raw_point_of (codes "end") tree) _ d a.1.1 in
    let c = both_ok (width_of tree) _ d b.1.1 in
    let f = both_ok (fill_of false tree) _ d c.1.1 in
    moved_start (same_ok f.1.1) tt

outline_started : (tree : Tree) (d : Drawing) → outline_drawing tree ≡ Ok d → IsStarted d.figure
unfolding outline_drawing
outline_started tree d h =
    let a = both_ok (corners_of tree) _ d h in
    let b = both_ok (width_of tree) _ d a.1.1 in
    let f = both_ok (fill_of true tree) _ d b.1.1 in
    moved_start (same_ok f.1.1) (corners_started tree a.0 a.1.0)

drawing_started : (kind : GraphicKind) (tree : Tree) (d : Drawing) → drawing_of kind tree ≡ Ok d → IsStarted d.figure
drawing_started LineKind tree d h = line_started tree d h
drawing_started RectKind tree d h = rect_started tree d h
drawing_started CircleKind tree d h = circle_started tree d h
drawing_started OutlineKind tree d h = outline_started tree d h

-- ---- where it is said to be, it lies on the board

tested_holds : {A : Type 0} (test : Bool) (make : test ≡ true → A) (x : A) → tested test make ≡ Some x → test ≡ true
tested_holds true make x h = refl
tested_holds false make x h = absurd cc

point_near : (placement : Placement) (s : RawPoint) (p : Point) → point_stood placement s ≡ Some p → fits_board (stood placement s) ≡ true
point_near placement s p h = tested_holds (fits_board (stood placement s)) (point_at (stood placement s)) p h

raw_points_near : (placement : Placement) (raw_points : List RawPoint) (ps : List Point) → 1 ≤ length raw_points → points_stood placement raw_points ≡ Some ps → fits_board (stood placement (first_of raw_points)) ≡ true
raw_points_near placement [] ps n h = absurd (omega (arith, n))
raw_points_near placement (s ∷ ss) ps n h = let found = both_some _ _ _ ps h in point_near placement s found.0 found.2

figure_near : (placement : Placement) (filled : Bool) (figure : Figure) (cores : List Core) → IsStarted figure → cores_of placement filled figure ≡ Some cores → fits_board (stood placement (first_raw_point figure)) ≡ true
figure_near placement filled (Line a b) cores s h = let found = both_some _ _ _ cores h in point_near placement a found.0 found.2
figure_near placement filled (Rect a b) cores s h = let found = both_some _ _ _ cores h in point_near placement a found.0 found.2
figure_near placement filled (Circle c r) cores s h = let found = both_some _ _ _ cores h in point_near placement c found.0 found.2
figure_near placement filled (Outline raw_points) cores s h = let found = map_some _ _ cores h in raw_points_near placement raw_points found.0 s found.1

-- ---- parts

both : (a b : Bool) → a ≡ true → b ≡ true → a && b ≡ true
both true true h k = refl
both true false h k = cc
both false b h k = cc

all_within : (layers copper : LayerSet) (r : Radius) (cores : List Core) → is_within layers copper ≡ true
    → list_all (λ part. is_within part.layers copper) (map (λ core. let p : Part = record { layers = layers; shape = around r core } in p) cores) ≡ true
all_within layers copper r [] h = refl
all_within layers copper r (c ∷ cs) h = both _ _ h (all_within layers copper r cs h)

drawn_within : (layers copper : LayerSet) (placement : Placement) (d : Drawing) (ps : List Part) → drawn layers placement d ≡ Some ps → is_within layers copper ≡ true
    → list_all (λ part. is_within part.layers copper) ps ≡ true
drawn_within layers copper placement d ps h k =
    let m = both_some _ _ _ ps h in
    subst (λ (qs : List Part). list_all (λ part. is_within part.layers copper) qs ≡ true) (sym m.4) (all_within layers copper m.0 m.1 k)

drawn_near : (layers : LayerSet) (placement : Placement) (d : Drawing) (ps : List Part) → IsStarted d.figure → drawn layers placement d ≡ Some ps → fits_board (stood placement (first_raw_point d.figure)) ≡ true
drawn_near layers placement d ps s h = let m = both_some _ _ _ ps h in figure_near placement d.filled d.figure m.1 s m.3

-- ---- nets

declared_by : (b : Bool) (n m : ℕ) (e : BoardError) (board : PlainBoard) → is_some (name_of board n) ≡ b → cond {A = Result ℕ BoardError} b (Ok n) (Err e) ≡ Ok m → is_some (name_of board m) ≡ true
declared_by true n m e board k h = let same : n ≡ m = same_ok h in subst (λ (x : ℕ). is_some (name_of board x) ≡ true) same k
declared_by false n m e board k h = absurd cc

net_in_list : (board : PlainBoard) (list : Tree) (n : ℕ) → declared_in board list ≡ Ok n → is_some (name_of board n) ≡ true
unfolding declared_in
net_in_list board list n k =
    let a = both_ok (atom_of 1 list) _ n k in
    let b = both_ok (number_in a.0) _ n a.1.1 in
    declared_by (is_some (name_of board b.0)) b.0 n _ board refl b.1.1

net_by : (board : PlainBoard) (n : ℕ) (found : Option Tree) → is_some (name_of board 0) ≡ true → given_or 0 (declared_in board) found ≡ Ok n → is_some (name_of board n) ≡ true
net_by board n None z k = let same : 0 ≡ n = same_ok k in subst (λ (x : ℕ). is_some (name_of board x) ≡ true) same z
net_by board n (Some list) z k = net_in_list board list n k

pub net_declared : (board : PlainBoard) (tree : Tree) (n : ℕ) → is_some (name_of board 0) ≡ true → net_of board tree ≡ Ok n → is_some (name_of board n) ≡ true
net_declared board tree n z h = net_by board n (element (codes "net") tree) z h

-- ---- items

ready_by : (board : PlainBoard) (unit : ℕ) (item made : Item) → made ≡ item → is_admitted board made ≡ true → made.unit ≡ unit → IsReady board unit item
ready_by board unit item made e h k =
    record { admitted = subst (λ (i : Item). is_admitted board i ≡ true) e h; of_unit = subst (λ (i : Item). i.unit ≡ unit) e k }

admitted_by : (board : PlainBoard) (at : RawPoint) (net : ℕ) (layers : Bool) → fits_board at ≡ true → is_some (name_of board net) ≡ true → layers ≡ true → (fits_board at && is_some (name_of board net)) && layers ≡ true
admitted_by board at net layers h k m = both _ _ (both _ _ h k) m

no_more : (copper : LayerSet) (ps : List Part) → list_all (λ part. is_within part.layers copper) ps ≡ true → list_all (λ part. is_within part.layers copper) (ps ++ []) ≡ true
no_more copper [] h = refl
no_more copper (p ∷ ps) h = by (is_within p.layers copper) (list_all (λ part. is_within part.layers copper) ps) h (no_more copper ps)
  where
    by : (a b : Bool) {c : Bool} → a && b ≡ true → (b ≡ true → c ≡ true) → a && c ≡ true
    by true b h k = k h
    by false b h k = absurd cc

copper_ready : (board : PlainBoard) (unit : ℕ) (placement : Placement) (kind : GraphicKind) (layer : ℕ) (tree : Tree) (item : Item) → is_some (name_of board 0) ≡ true → IsTrue (has_layer board.copper layer)
    → copper_graphic board unit placement kind layer tree ≡ Ok item → IsReady board unit item
unfolding copper_graphic
copper_ready board unit placement kind layer tree item z on h =
    let a = both_ok (drawing_of kind tree) _ item h in
    let b = both_ok (net_of board tree) _ item a.1.1 in
    let c = both_ok (check (Ring (place tree)) (not (is_ring a.0))) _ item b.1.1 in
    let d = both_ok (needed (OutOfBoard (place tree)) (drawn (single_layer layer) placement a.0)) _ item c.1.1 in
    let drew = needed_ok (OutOfBoard (place tree)) (drawn (single_layer layer) placement a.0) d.0 d.1.0 in
    let near = drawn_near (single_layer layer) placement a.0 d.0 (drawing_started kind tree a.0 a.1.0) drew in
    let within = drawn_within (single_layer layer) board.copper placement a.0 d.0 drew ((single_within layer board.copper).1 on) in
    ready_by board unit item (plain_item (name_in tree) unit b.0 (stood placement (first_raw_point a.0.figure)) d.0 Graphic refl) (same_ok d.1.1)
    (admitted_by board (stood placement (first_raw_point a.0.figure)) b.0 _ near (net_declared board tree b.0 z b.1.0) (no_more board.copper d.0 within)) refl

edge_drawn : (placement : Placement) (d : Drawing) (ps : List Part) (b : Bool) → is_length d.width ≡ b
    → cond {A = Option (List Part)} b (drawn (record { bits = 0 }) placement (record { figure = d.figure; width = pos 0; filled = false })) None ≡ Some ps
    → drawn (record { bits = 0 }) placement (record { figure = d.figure; width = pos 0; filled = false }) ≡ Some ps
edge_drawn placement d ps true k h = h
edge_drawn placement d ps false k h = absurd cc

edge_ready : (board : PlainBoard) (unit : ℕ) (placement : Placement) (kind : GraphicKind) (tree : Tree) (item : Item) → is_some (name_of board 0) ≡ true → edge_graphic unit placement kind tree ≡ Ok item → IsReady board unit item
unfolding edge_graphic
edge_ready board unit placement kind tree item z h =
    let a = both_ok (drawing_of kind tree) _ item h in
    let b = both_ok (check (Ring (place tree)) (not (is_circle a.0.figure))) _ item a.1.1 in
    let c = both_ok (needed (OutOfBoard (place tree)) (drawn_edge placement a.0)) _ item b.1.1 in
    let drew = edge_drawn placement a.0 c.0 (is_length a.0.width) refl (needed_ok (OutOfBoard (place tree)) (drawn_edge placement a.0) c.0 c.1.0) in
    let lines : Drawing = record { figure = a.0.figure; width = pos 0; filled = false } in
    let near = drawn_near (record { bits = 0 }) placement lines c.0 (drawing_started kind tree a.0 a.1.0) drew in
    let within = drawn_within (record { bits = 0 }) board.copper placement lines c.0 drew (none_within board.copper) in
    ready_by board unit item (plain_item (name_in tree) unit 0 (stood placement (first_raw_point a.0.figure)) [] (Edge c.0) refl) (same_ok c.1.1) (admitted_by board (stood placement (first_raw_point a.0.figure)) 0 _ near z within) refl

pub note_ready : (board : PlainBoard) (unit : ℕ) (name : List ℕ) (about : About) (layer : List ℕ) → is_some (name_of board 0) ≡ true → IsReady board unit (note_of name unit about layer)
note_ready board unit name about layer z = record { admitted = admitted_by board (record { x = pos 0; y = pos 0 }) 0 true refl z refl; of_unit = refl }

no_items : (board : PlainBoard) (unit : ℕ) (items : List Item) → [] ≡ items → All (IsReady board unit) items
no_items board unit items e = subst (λ (is : List Item). All (IsReady board unit) is) e (All-nil (IsReady board unit))

this_item : (board : PlainBoard) (unit : ℕ) (item : Item) (items : List Item) → item ∷ [] ≡ items → IsReady board unit item → All (IsReady board unit) items
this_item board unit item items e h = subst (λ (is : List Item). All (IsReady board unit) is) e (All-cons (IsReady board unit) item [] h (All-nil (IsReady board unit)))

pub graphic_ready : (board : PlainBoard) (unit : ℕ) (placement : Placement) (kind : GraphicKind) (tree : Tree) (lies : LayerRole) (items : List Item) → is_some (name_of board 0) ≡ true → HasLayerOfRole board.copper lies
    → graphic_by board unit placement kind tree lies ≡ Ok items → All (IsReady board unit) items
graphic_ready board unit placement kind tree (Copper layer) items z on h =
    let a = both_ok (copper_graphic board unit placement kind layer tree) _ items h in
    this_item board unit a.0 items (same_ok a.1.1) (copper_ready board unit placement kind layer tree a.0 z on.1 a.1.0)
graphic_ready board unit placement kind tree Outlines items z on h =
    let a = both_ok (edge_graphic unit placement kind tree) _ items h in
    this_item board unit a.0 items (same_ok a.1.1) (edge_ready board unit placement kind tree a.0 z a.1.0)
graphic_ready board unit placement kind tree Front items z on h = no_items board unit items (same_ok h)
graphic_ready board unit placement kind tree Back items z on h = no_items board unit items (same_ok h)
graphic_ready board unit placement kind tree Elsewhere items z on h = no_items board unit items (same_ok h)

pub text_ready : (board : PlainBoard) (unit : ℕ) (about : About) (tree : Tree) (lies : LayerRole) (items : List Item) → is_some (name_of board 0) ≡ true
    → text_by unit about tree lies ≡ Ok items → All (IsReady board unit) items
text_ready board unit about tree (Copper layer) items z h = this_item board unit (note_of (name_in tree) unit about (name_among (element (codes "layer") tree))) items (same_ok h) (note_ready board unit _ about _ z)
text_ready board unit about tree Outlines items z h = no_items board unit items (same_ok h)
text_ready board unit about tree Front items z h = no_items board unit items (same_ok h)
text_ready board unit about tree Back items z h = no_items board unit items (same_ok h)
text_ready board unit about tree Elsewhere items z h = no_items board unit items (same_ok h)
