-- The items of graphics and of texts are of their unit, and lie on the board.
use Rattle.std.proofs.Common.{◌≡◌, refl, ap, subst, ℕ, ◌≤◌, pos, arith, List, [], ◌∷◌, length, Bool, true, false, cond, leb, not, Option, None, Some, Result, Ok, codes}
use Rattle.std.proofs.lemmas.Bool.{leb-true}
use Rattle.sexpr_read.specs.Tree.{Tree, parts}
use Rattle.geo_seg.specs.declared.points.Point.{Point}
use Rattle.geo_seg.specs.declared.shapes.Core.{Core}
use Rattle.board_errors.specs.declared.errors.BoardError.{BoardError}
use Rattle.board_errors.specs.declared.errors.BoardError.TheVariants.{Missing, OutOfBoard, Ring}
use Rattle.copper_layers.specs.declared.set.LayerSet.{LayerSet}
use Rattle.one_item.specs.declared.parts.Part.{Part}
use Rattle.one_item.specs.declared.item.About.{About}
use Rattle.one_item.specs.declared.item.What.TheVariants.{Graphic, Edge}
use Rattle.one_item.specs.declared.item.Item.{Item}
use Rattle.copper_layers.specs.Layers.{single_layer}
use Rattle.one_item.specs.Positions.{is_on_board}
use Rattle.board_items.specs.Boards.{PlainBoard}
use Rattle.part_read.specs.declared.numbers.RawPoint.{RawPoint}
use Rattle.part_read.specs.declared.placements.Placement.{Placement}
use Rattle.part_read.specs.declared.figures.Figure.{Figure}
use Rattle.part_read.specs.declared.figures.Figure.TheVariants.{Line, Rect, Circle, Outline}
use Rattle.part_read.specs.declared.figures.Drawing.{Drawing}
use Rattle.part_read.specs.declared.drawings.GraphicKind.{GraphicKind}
use Rattle.part_read.specs.declared.drawings.GraphicKind.TheVariants.{Line as LineKind, Rect as RectKind, Circle as CircleKind, Outline as OutlineKind}
use Rattle.part_read.specs.declared.graphics.LayerRole.{LayerRole}
use Rattle.part_read.specs.declared.graphics.LayerRole.TheVariants.{Copper, Outlines, Front, Back, Elsewhere}
use Rattle.list_read.specs.FirstRefusals.{◌>>=◌, needed, check}
use Rattle.list_read.specs.ListHeads.{place}
use Rattle.list_read.specs.NamedElements.{element}
use Rattle.part_read.specs.ElementResults.{name_among, name_in}
use Rattle.plain_types.specs.Lengths.{is_length}
use Rattle.part_read.specs.OnBoard.{tested, fits_board, point_at}
use Rattle.part_read.specs.NetsOf.{net_of}
use Rattle.part_read.specs.BoardNumbers.{raw_point_of}
use Rattle.part_read.specs.Placements.{stood, point_stood, points_stood}
use Rattle.part_read.specs.Figures.{cores_of, drawn, drawn_edge, first_of, first_raw_point, is_ring, is_circle}
use Rattle.part_read.specs.Drawings.{raw_points_among, enough, corners_in, corners_of, width_of, fill_of, line_drawing, rect_drawing, circle_drawing, outline_drawing, drawing_of}
use Rattle.part_read.specs.PlainItems.{plain_item}
use Rattle.part_read.specs.Graphics.{copper_graphic, edge_graphic, note_of, one_item, graphic_by, curve_by, text_by}
use Rattle.part_read.proofs.There.{map_some, both_some}
use Rattle.part_read.proofs.Reach.{both_ok}
use Rattle.roundtrip_lists.specs.Carried.{ItemsOf}

-- ---- what an answer was made of

pub needed_ok : {A : Type 0} (e : BoardError) (o : Option A) (x : A) → needed e o ≡ Ok x → o ≡ Some x
needed_ok e None x h = absurd cc
needed_ok e (Some y) x h = let s : y ≡ x = cc in ap (λ (z : _). Some z) s

pub same_ok : {A : Type 0} {x y : A} → (let r : Result A BoardError = Ok x in r) ≡ Ok y → x ≡ y
same_ok h = cc

pub made_of : {A : Type 0} (test : Bool) (make : test ≡ true → A) (x : A) → tested test make ≡ Some x → (h : test ≡ true) × (make h ≡ x)
made_of true make x h = (refl, cc)
made_of false make x h = absurd cc

-- one item, made so
pub one_of : (unit : ℕ) (item made : Item) (items : List Item) → made ≡ item → item ∷ [] ≡ items → made.unit ≡ unit → is_on_board made ≡ true → ItemsOf unit items
one_of unit item made items e f own near =
    subst (λ (is : List Item). ItemsOf unit is) f (subst (λ (i : Item). i.unit ≡ unit) e own, subst (λ (i : Item). is_on_board i ≡ true) e near, tt)

pub none_of : (unit : ℕ) (items : List Item) → [] ≡ items → ItemsOf unit items
none_of unit items f = subst (λ (is : List Item). ItemsOf unit is) f tt

-- ---- outlines have a first point

pub started_by : (e : BoardError) (raw_points corners : List RawPoint) (b : Bool) → leb 3 (length raw_points) ≡ b → (check e b >>= λ _. Ok raw_points) ≡ Ok corners → 1 ≤ length corners
started_by e raw_points corners true k h =
    let same : raw_points ≡ corners = same_ok h in
    let some = leb-true 3 (length raw_points) k in
    subst (λ (ss : List RawPoint). 1 ≤ length ss) same (omega (arith, some))
started_by e raw_points corners false k h = absurd cc

pub corners_started : (tree : Tree) (corners : List RawPoint) → corners_of tree ≡ Ok corners → 1 ≤ length corners
unfolding corners_in
corners_started tree corners h =
    let a = both_ok (needed _ (element (codes "pts") tree)) corners_in corners h in
    let b = both_ok (raw_points_among false (parts a.0)) (enough a.0) corners a.1.1 in
    started_by (Missing (place a.0)) b.0 corners (leb 3 (length b.0)) refl b.1.1

abbrev IsStarted : Figure → Type 0
IsStarted (Outline raw_points) = 1 ≤ length raw_points
IsStarted figure = Unit {0}

moved_start : {d e : Drawing} → d ≡ e → IsStarted d.figure → IsStarted e.figure
moved_start {d} {e} h k = subst (λ (x : Drawing). IsStarted x.figure) h k

drawing_started : (kind : GraphicKind) (tree : Tree) (d : Drawing) → drawing_of kind tree ≡ Ok d → IsStarted d.figure
unfolding line_drawing rect_drawing circle_drawing outline_drawing
drawing_started LineKind tree d h =
    let a = both_ok (raw_point_of (codes "start") tree) _ d h in
    let b = both_ok (raw_point_of (codes "end") tree) _ d a.1.1 in
    let c = both_ok (width_of tree) _ d b.1.1 in
    moved_start (same_ok c.1.1) tt
drawing_started RectKind tree d h =
    let a = both_ok (raw_point_of (codes "start") tree) _ d h in
    let b = both_ok (raw_point_of (codes "end") tree) _ d a.1.1 in
    let c = both_ok (width_of tree) _ d b.1.1 in
    let f = both_ok (fill_of false tree) _ d c.1.1 in
    moved_start (same_ok f.1.1) tt
drawing_started CircleKind tree d h =
    let a = both_ok (raw_point_of (codes "center") tree) _ d h in
    let b = both_ok (raw_point_of (codes "end") tree) _ d a.1.1 in
    let c = both_ok (width_of tree) _ d b.1.1 in
    let f = both_ok (fill_of false tree) _ d c.1.1 in
    moved_start (same_ok f.1.1) tt
drawing_started OutlineKind tree d h =
    let a = both_ok (corners_of tree) _ d h in
    let b = both_ok (width_of tree) _ d a.1.1 in
    let f = both_ok (fill_of true tree) _ d b.1.1 in
    moved_start (same_ok f.1.1) (corners_started tree a.0 a.1.0)

-- ---- the first point of what is drawn lies on the board

point_near : (placement : Placement) (s : RawPoint) (p : Point) → point_stood placement s ≡ Some p → fits_board (stood placement s) ≡ true
point_near placement s p h = (made_of (fits_board (stood placement s)) (point_at (stood placement s)) p h).0

raw_points_near : (placement : Placement) (raw_points : List RawPoint) (ps : List Point) → 1 ≤ length raw_points → points_stood placement raw_points ≡ Some ps → fits_board (stood placement (first_of raw_points)) ≡ true
raw_points_near placement [] ps n h = absurd (omega (arith, n))
raw_points_near placement (s ∷ ss) ps n h = let found = both_some _ _ _ ps h in point_near placement s found.0 found.2

figure_near : (placement : Placement) (filled : Bool) (figure : Figure) (cores : List Core) → IsStarted figure → cores_of placement filled figure ≡ Some cores → fits_board (stood placement (first_raw_point figure)) ≡ true
figure_near placement filled (Line a b) cores s h = let found = both_some _ _ _ cores h in point_near placement a found.0 found.2
figure_near placement filled (Rect a b) cores s h = let found = both_some _ _ _ cores h in point_near placement a found.0 found.2
figure_near placement filled (Circle c r) cores s h = let found = both_some _ _ _ cores h in point_near placement c found.0 found.2
figure_near placement filled (Outline raw_points) cores s h = let found = map_some _ _ cores h in raw_points_near placement raw_points found.0 s found.1

drawn_near : (layers : LayerSet) (placement : Placement) (d : Drawing) (ps : List Part) → IsStarted d.figure → drawn layers placement d ≡ Some ps → fits_board (stood placement (first_raw_point d.figure)) ≡ true
drawn_near layers placement d ps s h =
    let m = both_some _ _ _ ps h in figure_near placement d.filled d.figure m.1 s m.3

edge_drawn : (placement : Placement) (d : Drawing) (ps : List Part) (b : Bool) → is_length d.width ≡ b
    → cond {A = Option (List Part)} b (drawn (record { bits = 0 }) placement (record { figure = d.figure; width = pos 0; filled = false })) None ≡ Some ps
    → drawn (record { bits = 0 }) placement (record { figure = d.figure; width = pos 0; filled = false }) ≡ Some ps
edge_drawn placement d ps true k h = h
edge_drawn placement d ps false k h = absurd cc

-- ---- items

copper_of : (board : PlainBoard) (unit : ℕ) (placement : Placement) (kind : GraphicKind) (layer : ℕ) (tree : Tree) (item : Item) → copper_graphic board unit placement kind layer tree ≡ Ok item → ItemsOf unit (item ∷ [])
unfolding copper_graphic
copper_of board unit placement kind layer tree item h =
    let a = both_ok (drawing_of kind tree) _ item h in
    let b = both_ok (net_of board tree) _ item a.1.1 in
    let c = both_ok (check (Ring (place tree)) (not (is_ring a.0))) _ item b.1.1 in
    let d = both_ok (needed (OutOfBoard (place tree)) (drawn (single_layer layer) placement a.0)) _ item c.1.1 in
    let drew = needed_ok (OutOfBoard (place tree)) (drawn (single_layer layer) placement a.0) d.0 d.1.0 in
    let near = drawn_near (single_layer layer) placement a.0 d.0 (drawing_started kind tree a.0 a.1.0) drew in
    one_of unit item (plain_item (name_in tree) unit b.0 (stood placement (first_raw_point a.0.figure)) d.0 Graphic refl) (item ∷ []) (same_ok d.1.1) refl refl near

edge_of : (unit : ℕ) (placement : Placement) (kind : GraphicKind) (tree : Tree) (item : Item) → edge_graphic unit placement kind tree ≡ Ok item → ItemsOf unit (item ∷ [])
unfolding edge_graphic
edge_of unit placement kind tree item h =
    let a = both_ok (drawing_of kind tree) _ item h in
    let b = both_ok (check (Ring (place tree)) (not (is_circle a.0.figure))) _ item a.1.1 in
    let c = both_ok (needed (OutOfBoard (place tree)) (drawn_edge placement a.0)) _ item b.1.1 in
    let drew = edge_drawn placement a.0 c.0 (is_length a.0.width) refl (needed_ok (OutOfBoard (place tree)) (drawn_edge placement a.0) c.0 c.1.0) in
    let lines : Drawing = record { figure = a.0.figure; width = pos 0; filled = false } in
    let near = drawn_near (record { bits = 0 }) placement lines c.0 (drawing_started kind tree a.0 a.1.0) drew in
    one_of unit item (plain_item (name_in tree) unit 0 (stood placement (first_raw_point a.0.figure)) [] (Edge c.0) refl) (item ∷ []) (same_ok c.1.1) refl refl near

-- the items of an answer that gives one
pub one_item_of : (unit : ℕ) (answer : Result Item BoardError) (items : List Item) → ((item : Item) → answer ≡ Ok item → ItemsOf unit (item ∷ [])) → one_item answer ≡ Ok items → ItemsOf unit items
one_item_of unit answer items law h =
    let a = both_ok answer _ items h in
    subst (λ (is : List Item). ItemsOf unit is) (same_ok a.1.1) (law a.0 a.1.0)

pub graphic_of : (board : PlainBoard) (unit : ℕ) (placement : Placement) (kind : GraphicKind) (tree : Tree) (lies : LayerRole) (items : List Item) → graphic_by board unit placement kind tree lies ≡ Ok items → ItemsOf unit items
graphic_of board unit placement kind tree (Copper layer) items h = one_item_of unit (copper_graphic board unit placement kind layer tree) items (λ item e. copper_of board unit placement kind layer tree item e) h
graphic_of board unit placement kind tree Outlines items h = one_item_of unit (edge_graphic unit placement kind tree) items (λ item e. edge_of unit placement kind tree item e) h
graphic_of board unit placement kind tree Front items h = none_of unit items (same_ok h)
graphic_of board unit placement kind tree Back items h = none_of unit items (same_ok h)
graphic_of board unit placement kind tree Elsewhere items h = none_of unit items (same_ok h)

pub note_stands : (unit : ℕ) (name : List ℕ) (about : About) (layer : List ℕ) → ItemsOf unit (note_of name unit about layer ∷ [])
note_stands unit name about layer = (refl, refl, tt)

pub text_of_unit : (unit : ℕ) (about : About) (tree : Tree) (lies : LayerRole) (items : List Item) → text_by unit about tree lies ≡ Ok items → ItemsOf unit items
text_of_unit unit about tree (Copper layer) items h =
    subst (λ (is : List Item). ItemsOf unit is) (same_ok h) (note_stands unit (name_in tree) about (name_among (element (codes "layer") tree)))
text_of_unit unit about tree Outlines items h = none_of unit items (same_ok h)
text_of_unit unit about tree Front items h = none_of unit items (same_ok h)
text_of_unit unit about tree Back items h = none_of unit items (same_ok h)
text_of_unit unit about tree Elsewhere items h = none_of unit items (same_ok h)

pub curve_of_unit : (unit : ℕ) (tree : Tree) (lies : LayerRole) (items : List Item) → curve_by tree lies ≡ Ok items → ItemsOf unit items
curve_of_unit unit tree (Copper layer) items h = absurd cc
curve_of_unit unit tree Outlines items h = absurd cc
curve_of_unit unit tree Front items h = none_of unit items (same_ok h)
curve_of_unit unit tree Back items h = none_of unit items (same_ok h)
curve_of_unit unit tree Elsewhere items h = none_of unit items (same_ok h)
