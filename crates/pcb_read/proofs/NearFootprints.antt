-- A refusal of what is read stands in the text: footprints.
use Rattle.std.proofs.Common.{◌≤◌, ◌==◌, ℕ, suc, Bool, true, false, List, [], ◌∷◌, ◌++◌, find, length, codes, Option, None, Some, Result, Ok, Err}
use Rattle.std.specs.Prelude.{nat_le, if◌then◌else◌}
use Rattle.sexpr_read.specs.Tree.{Tree, parts}
use Rattle.board_errors.specs.declared.errors.BoardError.{BoardError}
use Rattle.board_errors.specs.declared.errors.BoardError.TheVariants.{Missing, OutOfBoard, Turned}
use Rattle.copper_layers.specs.declared.set.LayerSet.{LayerSet}
use Rattle.one_item.specs.declared.item.Item.{Item}
use Rattle.one_item.specs.declared.item.About.TheVariants.{Text, FootZone}
use Rattle.board_items.specs.Boards.{PlainBoard}
use Rattle.part_read.specs.declared.numbers.RawPoint.{RawPoint}
use Rattle.part_read.specs.declared.placements.Placement.{Placement}
use Rattle.part_read.specs.declared.drawings.GraphicKind.{GraphicKind}
use Rattle.part_read.specs.declared.drawings.GraphicKind.TheVariants.{Line, Rect, Circle, Outline}
use Rattle.part_read.specs.declared.graphics.LayerRole.{LayerRole}
use Rattle.part_read.specs.declared.graphics.LayerRole.TheVariants.{Copper, Outlines, Front, Back, Elsewhere}
use Rattle.list_read.specs.FirstRefusals.{◌>>=◌, needed, check}
use Rattle.list_read.specs.ListHeads.{place, has_head}
use Rattle.list_read.specs.NamedElements.{element}
use Rattle.part_read.specs.ElementResults.{name_in}
use Rattle.part_read.specs.BoardNumbers.{raw_point_of}
use Rattle.part_read.specs.BoardLayers.{copper_in}
use Rattle.part_read.specs.Drawings.{raw_points_among}
use Rattle.part_read.specs.Graphics.{layer_role_of, graphic_by, curve_by, text_by, note_of}
use Rattle.part_read.specs.Capacity.{has_capacity_after}
use Rattle.pad_read.specs.declared.head.Head.{Head}
use Rattle.pad_read.specs.LocalPlacements.{local_placement_of, quarters_of, clearance_of}
use Rattle.pad_read.specs.PadOf.{pad_of}
use Rattle.footprint_read.specs.declared.contents.Contents.{Contents}
use Rattle.footprint_read.specs.declared.contents.Given.{Given}
use Rattle.footprint_read.specs.declared.courts.Court.{Court}
use Rattle.footprint_read.specs.FootHead.{side_by, side_of, says, second_text, reference_by, reference_of, head_of}
use Rattle.footprint_read.specs.Courtyards.{line_side, rect_side, circle_side, raw_points_side, has_arc, outline_side, graphic_side}
use Rattle.footprint_read.specs.FootprintOf.{given_at, giving, drawn_gives, arc_gives, drawn_kind, is_curve, is_writing, other_gives, kind_gives, child_gives, contents_then, children_give, body_of, court_notes, all_given, with_reserved, is_placed, finished, contents_of, SaysInside, SaysWithHead, FootprintSays}
use Rattle.pcb_read.specs.BoardRefusalPlaces.{IsPlacedInText}
use Rattle.pcb_read.specs.ShortTrees.{IsShort, AllShort}
use Rattle.pcb_read.proofs.Nearness.{Near, ShortIf, near_same, step, with_tree, by_test, near_needed, needed_short, near_check, near_place, parts_short, find_short, near_element, of_atom, near_raw_point_of, near_copper, near_raw_points}
use Rattle.pcb_read.proofs.Nearby.{near_layer_role, near_graphic, near_curve, near_writing}
use Rattle.pcb_read.proofs.NearPads.{near_local_placement, near_clearance, near_pad}

-- ---- the head

near_side_by : (a : Tree) (layer : ℕ) → IsShort a → Near (side_by a layer)
near_side_by a layer h = by_test (layer == 0) _ _ tt (by_test (layer == 31) _ _ tt (near_place a h))

near_side : (copper : LayerSet) (t : Tree) → IsShort t → Near (side_of copper t)
unfolding side_of
near_side copper t h =
    with_tree (needed (Missing (place t)) (element (codes "layer") t)) _ (needed_short (Missing (place t)) (element (codes "layer") t) (near_place t h) (near_element (codes "layer") t h)) (λ list s.
    of_atom 1 list _ s (λ a u. step (copper_in copper a) (side_by a) (near_copper copper a u) (λ layer. near_side_by a layer u)))

near_second_text : (t : Tree) → IsShort t → Near (second_text t)
near_second_text t h = of_atom 2 t _ h (λ a s. tt)

near_reference_by : (a b : Option Tree) → ShortIf a → ShortIf b → Near (reference_by a b)
near_reference_by (Some t) b h k = near_second_text t h
near_reference_by None (Some t) h k = near_second_text t k
near_reference_by None None h k = tt

near_reference : (t : Tree) → IsShort t → Near (reference_of t)
unfolding reference_of
near_reference t h =
    near_reference_by (find (says (codes "fp_text") (codes "reference")) (parts t)) (find (says (codes "property") (codes "Reference")) (parts t))
    (find_short (says (codes "fp_text") (codes "reference")) (parts t) (parts_short t h)) (find_short (says (codes "property") (codes "Reference")) (parts t) (parts_short t h))

near_head : (copper : LayerSet) (t : Tree) → IsShort t → Near (head_of copper t)
unfolding head_of
near_head copper t h =
    step (side_of copper t) _ (near_side copper t h) (λ on_back.
    step (local_placement_of t) _ (near_local_placement t h) (λ local_placement.
    step (needed (Turned (place t)) (quarters_of local_placement.angle)) _ (near_needed (Turned (place t)) (quarters_of local_placement.angle) (near_place t h)) (λ quarter.
    step (reference_of t) _ (near_reference t h) (λ reference.
    step (clearance_of t) _ (near_clearance t h) (λ clearance. tt)))))

-- ---- courtyards

near_line_side : (placement : Placement) (t : Tree) → IsShort t → Near (line_side placement t)
unfolding line_side
near_line_side placement t h =
    step (raw_point_of (codes "start") t) _ (near_raw_point_of (codes "start") t h) (λ a. step (raw_point_of (codes "end") t) _ (near_raw_point_of (codes "end") t h) (λ b. tt))

near_rect_side : (t : Tree) → IsShort t → Near (rect_side t)
unfolding rect_side
near_rect_side t h =
    step (raw_point_of (codes "start") t) _ (near_raw_point_of (codes "start") t h) (λ a. step (raw_point_of (codes "end") t) _ (near_raw_point_of (codes "end") t h) (λ b. tt))

near_circle_side : (t : Tree) → IsShort t → Near (circle_side t)
unfolding circle_side
near_circle_side t h =
    step (raw_point_of (codes "center") t) _ (near_raw_point_of (codes "center") t h) (λ a. step (raw_point_of (codes "end") t) _ (near_raw_point_of (codes "end") t h) (λ b. tt))

near_raw_points_side : (list : Tree) (curved : Bool) (raw_points : List RawPoint) → IsShort list → Near (raw_points_side list curved raw_points)
near_raw_points_side list curved raw_points h = by_test curved _ _ tt (by_test (nat_le 3 (length raw_points)) _ _ tt (near_place list h))

near_outline_side : (t : Tree) → IsShort t → Near (outline_side t)
unfolding outline_side
near_outline_side t h =
    with_tree (needed (Missing (place t)) (element (codes "pts") t)) _ (needed_short (Missing (place t)) (element (codes "pts") t) (near_place t h) (near_element (codes "pts") t h)) (λ list s.
    step (raw_points_among true (parts list)) _ (near_raw_points true (parts list) (parts_short list s)) (λ raw_points. near_raw_points_side list (has_arc list) raw_points s))

near_court : (placement : Placement) (kind : GraphicKind) (t : Tree) → IsShort t → Near (graphic_side placement kind t)
near_court placement Line t h = near_line_side placement t h
near_court placement Rect t h = near_rect_side t h
near_court placement Circle t h = near_circle_side t h
near_court placement Outline t h = near_outline_side t h

-- ---- what the children give, with the places of their lists

abbrev AllNear : List Given → Type 0
AllNear [] = Unit {0}
AllNear (g ∷ gs) = (g.place ≤ 33554432) × AllNear gs

abbrev NearGiven : Result Contents BoardError → Type 0
NearGiven (Ok c) = AllNear c.given
NearGiven (Err e) = IsPlacedInText e

both_near : (gs hs : List Given) → AllNear gs → AllNear hs → AllNear (gs ++ hs)
both_near [] hs h k = k
both_near (g ∷ gs) hs h k = (h.0, both_near gs hs h.1 k)

at_near : (at : ℕ) (items : List Item) → at ≤ 33554432 → AllNear (given_at at items)
at_near at [] h = tt
at_near at (item ∷ items) h = (h, at_near at items h)

given_by : {A : Type 0} → (r : Result A BoardError) (f : A → Result Contents BoardError) → Near r → ((x : A) → NearGiven (f x)) → NearGiven (r >>= f)
given_by (Ok x) f h k = k x
given_by (Err e) f h k = h

given_if : (b : Bool) (x y : Result Contents BoardError) → NearGiven x → NearGiven y → NearGiven (if b then x else y)
given_if true x y h k = h
given_if false x y h k = k

near_giving : (t : Tree) (answer : Result (List Item) BoardError) → IsShort t → Near answer → NearGiven (giving t answer)
near_giving t answer h k = given_by answer _ k (λ items. at_near (place t) items (near_place t h))

near_drawn : (board : PlainBoard) (unit : ℕ) (head : Head) (kind : GraphicKind) (t : Tree) (lies : LayerRole) → IsShort t → NearGiven (drawn_gives board unit head kind t lies)
near_drawn board unit head kind t Front h = given_by (graphic_side head.placement kind t) _ (near_court head.placement kind t h) (λ side. tt)
near_drawn board unit head kind t Back h = given_by (graphic_side head.placement kind t) _ (near_court head.placement kind t h) (λ side. tt)
near_drawn board unit head kind t (Copper layer) h = near_giving t (graphic_by board unit head.placement kind t (Copper layer)) h (near_graphic board unit head.placement kind t (Copper layer) h)
near_drawn board unit head kind t Outlines h = near_giving t (graphic_by board unit head.placement kind t Outlines) h (near_graphic board unit head.placement kind t Outlines h)
near_drawn board unit head kind t Elsewhere h = near_giving t (graphic_by board unit head.placement kind t Elsewhere) h (near_graphic board unit head.placement kind t Elsewhere h)

near_arc : (t : Tree) (lies : LayerRole) → IsShort t → NearGiven (arc_gives t lies)
near_arc t Front h = tt
near_arc t Back h = tt
near_arc t (Copper layer) h = near_giving t (curve_by t (Copper layer)) h (near_curve t (Copper layer) h)
near_arc t Outlines h = near_giving t (curve_by t Outlines) h (near_curve t Outlines h)
near_arc t Elsewhere h = near_giving t (curve_by t Elsewhere) h (near_curve t Elsewhere h)

near_other : (board : PlainBoard) (unit : ℕ) (t : Tree) → IsShort t → NearGiven (other_gives board unit t)
near_other board unit t h =
    given_if (is_curve t) _ _ (given_by (layer_role_of board.copper t) _ (near_layer_role board.copper t h) (λ lies. near_arc t lies h))
    (given_if (is_writing t) _ _ (given_by (layer_role_of board.copper t) _ (near_layer_role board.copper t h) (λ lies. near_giving t (text_by unit Text t lies) h (near_writing unit Text t lies)))
    (given_if (has_head (codes "zone") t) _ _ (near_giving t (Ok (note_of (name_in t) unit FootZone [] ∷ [])) h tt) tt))

near_kind : (board : PlainBoard) (unit : ℕ) (head : Head) (t : Tree) (o : Option GraphicKind) → IsShort t → NearGiven (kind_gives board unit head t o)
near_kind board unit head t (Some kind) h = given_by (layer_role_of board.copper t) _ (near_layer_role board.copper t h) (λ lies. near_drawn board unit head kind t lies h)
near_kind board unit head t None h = near_other board unit t h

near_child : (board : PlainBoard) (unit : ℕ) (head : Head) (t : Tree) → IsShort t → NearGiven (child_gives board unit head t)
unfolding child_gives
near_child board unit head t h =
    given_if (has_head (codes "pad") t) _ _ (near_giving t (pad_of board unit head t >>= λ pad. Ok (pad ∷ [])) h (step (pad_of board unit head t) _ (near_pad board unit head t h) (λ pad. tt)))
    (near_kind board unit head t (drawn_kind t) h)

near_then : (a b : Result Contents BoardError) → NearGiven a → NearGiven b → NearGiven (a >>= λ first. b >>= λ more. Ok (contents_then first more))
near_then (Err e) b h k = h
near_then (Ok x) (Err e) h k = k
near_then (Ok x) (Ok y) h k = both_near x.given y.given h k

near_children : (board : PlainBoard) (unit : ℕ) (head : Head) (ts : List Tree) → AllShort ts → NearGiven (children_give board unit head ts)
near_children board unit head [] h = tt
near_children board unit head (t ∷ ts) h = near_then (child_gives board unit head t) (children_give board unit head ts) (near_child board unit head t h.0) (near_children board unit head ts h.1)

-- ---- the whole

near_capacity : (board : PlainBoard) (unit before : ℕ) (gs : List Given) → AllNear gs → Near (with_reserved board unit before gs)
near_capacity board unit before [] h = tt
near_capacity board unit before (g ∷ gs) h = by_test (has_capacity_after before board unit) _ _ (near_capacity board unit (suc before) gs h.1) h.0

near_all : (unit : ℕ) (head : Head) (t : Tree) (gs : List Given) (front back : Court) → AllNear gs → IsShort t → AllNear (all_given unit head t gs front back)
near_all unit head t gs front back h k =
    let at = near_place t k in
    both_near ((given_at (place t) (body_of unit head t front back ∷ []) ++ gs) ++ given_at (place t) (court_notes unit t (codes "F.CrtYd") front)) (given_at (place t) (court_notes unit t (codes "B.CrtYd") back))
    (both_near (given_at (place t) (body_of unit head t front back ∷ []) ++ gs) (given_at (place t) (court_notes unit t (codes "F.CrtYd") front))
    (both_near (given_at (place t) (body_of unit head t front back ∷ [])) gs (at_near (place t) (body_of unit head t front back ∷ []) at) h)
    (at_near (place t) (court_notes unit t (codes "F.CrtYd") front) at))
    (at_near (place t) (court_notes unit t (codes "B.CrtYd") back) at)

near_finished : (board : PlainBoard) (unit : ℕ) (head : Head) (t : Tree) (gs : List Given) (front back : Court) → AllNear gs → IsShort t → Near (finished board unit head t gs front back)
unfolding finished
near_finished board unit head t gs front back h k =
    step (check (OutOfBoard (place t)) (is_placed head front back)) _ (near_check (OutOfBoard (place t)) (is_placed head front back) (near_place t k)) (λ u.
    step (with_reserved board unit 0 (all_given unit head t gs front back)) _ (near_capacity board unit 0 (all_given unit head t gs front back) (near_all unit head t gs front back h k)) (λ v. tt))

near_inside : (board : PlainBoard) (unit : ℕ) (head : Head) (t : Tree) (r : Result Contents BoardError) (answer : Result (List Item) BoardError) → NearGiven r → IsShort t → SaysInside board unit head t r answer → Near answer
near_inside board unit head t (Err e) answer h k says = near_same says h
near_inside board unit head t (Ok c) answer h k says = near_same says.same (near_finished board unit head t c.given says.front says.back h k)

near_with_head : (board : PlainBoard) (unit : ℕ) (t : Tree) (r : Result Head BoardError) (answer : Result (List Item) BoardError) → Near r → IsShort t → SaysWithHead board unit t r answer → Near answer
near_with_head board unit t (Err e) answer h k says = near_same says h
near_with_head board unit t (Ok head) answer h k says =
    near_inside board unit head t (contents_of board unit head t) answer (near_children board unit head (parts t) (parts_short t k)) k says

pub near_footprint : (board : PlainBoard) (unit : ℕ) (t : Tree) (answer : Result (List Item) BoardError) → IsShort t → FootprintSays board unit t answer → Near answer
near_footprint board unit t answer h says = near_with_head board unit t (head_of board.copper t) answer (near_head board.copper t h) h says
