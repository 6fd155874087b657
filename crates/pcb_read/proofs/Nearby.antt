-- A refusal of what is read stands in the text: graphics, zones, tracks and vias.
use Rattle.std.proofs.Common.{ℕ, suc, false, not, List, [], ◌∷◌, codes, Option, None, Some, Result}
use Rattle.sexpr_read.specs.Tree.{Tree, parts}
use Rattle.board_errors.specs.declared.errors.BoardError.{BoardError}
use Rattle.board_errors.specs.declared.errors.BoardError.TheVariants.{Missing, OutOfBoard, Ring, ThickFill, TooMany}
use Rattle.copper_layers.specs.declared.set.LayerSet.{LayerSet}
use Rattle.one_item.specs.declared.item.About.{About}
use Rattle.one_item.specs.declared.item.Item.{Item}
use Rattle.board_items.specs.Boards.{PlainBoard}
use Rattle.copper_layers.specs.Layers.{single_layer}
use Rattle.part_read.specs.declared.numbers.RawPoint.{RawPoint}
use Rattle.part_read.specs.declared.placements.Placement.{Placement}
use Rattle.part_read.specs.declared.drawings.GraphicKind.{GraphicKind}
use Rattle.part_read.specs.declared.graphics.LayerRole.{LayerRole}
use Rattle.part_read.specs.declared.graphics.LayerRole.TheVariants.{Copper, Outlines, Front, Back, Elsewhere}
use Rattle.list_read.specs.FirstRefusals.{needed, check}
use Rattle.list_read.specs.ListHeads.{place, has_head}
use Rattle.list_read.specs.NamedElements.{element}
use Rattle.part_read.specs.ElementResults.{in_needed, in_given}
use Rattle.part_read.specs.BoardNumbers.{size_at, raw_point_of, size_of}
use Rattle.part_read.specs.BoardLayers.{layer_in, layer_of, layers_through, named, drawn_on}
use Rattle.part_read.specs.NetsOf.{net_of}
use Rattle.part_read.specs.Figures.{drawn, drawn_edge, is_ring, is_circle}
use Rattle.part_read.specs.Drawings.{corners_of, drawing_of}
use Rattle.part_read.specs.Graphics.{layer_role_among, layer_role_of, copper_graphic, edge_graphic, one_item, graphic_by, curve_by, text_by}
use Rattle.part_read.specs.Capacity.{has_capacity_after}
use Rattle.zone_read.specs.ZoneOf.{layers_among, zone_layers, title_of, area_of, ban_of, bans_in, polygon_of, area_in_capacity, rule_area, is_thin, fill_layer, fill_on, fill_in_capacity, with_fill, fills_after, zone_by, zone_of}
use Rattle.pcb_read.specs.Tracks.{track_of, via_of}
use Rattle.pcb_read.specs.ShortTrees.{IsShort, AllShort}
use Rattle.pcb_read.proofs.Nearness.{Near, ShortIf, step, with_tree, by_test, near_needed, needed_short, near_check, near_place, parts_short, near_element, of_atom, in_one, of_element, in_some, near_raw_point_of, near_size_at, near_size_of, near_layer, near_layer_of, near_through, near_named, near_layers, near_drawn_on, near_net, near_corners, near_drawing}

-- ---- graphics

near_layer_role_among : (copper : LayerSet) (o : Option Tree) → ShortIf o → Near (layer_role_among copper o)
near_layer_role_among copper None h = tt
near_layer_role_among copper (Some t) h = of_atom 1 t _ h (λ a s. step (drawn_on copper a) _ (near_drawn_on copper a s) (λ layer. tt))

pub near_layer_role : (copper : LayerSet) (t : Tree) → IsShort t → Near (layer_role_of copper t)
unfolding layer_role_of
near_layer_role copper t h = near_layer_role_among copper (element (codes "layer") t) (near_element (codes "layer") t h)

near_copper_graphic : (board : PlainBoard) (unit : ℕ) (placement : Placement) (kind : GraphicKind) (layer : ℕ) (t : Tree) → IsShort t → Near (copper_graphic board unit placement kind layer t)
unfolding copper_graphic
near_copper_graphic board unit placement kind layer t h =
    step (drawing_of kind t) _ (near_drawing kind t h) (λ d.
    step (net_of board t) _ (near_net board t h) (λ n.
    step (check (Ring (place t)) (not (is_ring d))) _ (near_check (Ring (place t)) (not (is_ring d)) (near_place t h)) (λ u.
    step (needed (OutOfBoard (place t)) (drawn (single_layer layer) placement d)) _ (near_needed (OutOfBoard (place t)) (drawn (single_layer layer) placement d) (near_place t h)) (λ c. tt))))

near_edge_graphic : (unit : ℕ) (placement : Placement) (kind : GraphicKind) (t : Tree) → IsShort t → Near (edge_graphic unit placement kind t)
unfolding edge_graphic
near_edge_graphic unit placement kind t h =
    step (drawing_of kind t) _ (near_drawing kind t h) (λ d.
    step (check (Ring (place t)) (not (is_circle d.figure))) _ (near_check (Ring (place t)) (not (is_circle d.figure)) (near_place t h)) (λ u.
    step (needed (OutOfBoard (place t)) (drawn_edge placement d)) _ (near_needed (OutOfBoard (place t)) (drawn_edge placement d) (near_place t h)) (λ c. tt)))

pub near_one : (answer : Result Item BoardError) → Near answer → Near (one_item answer)
near_one answer h = step answer _ h (λ item. tt)

pub near_graphic : (board : PlainBoard) (unit : ℕ) (placement : Placement) (kind : GraphicKind) (t : Tree) (lies : LayerRole) → IsShort t → Near (graphic_by board unit placement kind t lies)
near_graphic board unit placement kind t (Copper layer) h = near_one (copper_graphic board unit placement kind layer t) (near_copper_graphic board unit placement kind layer t h)
near_graphic board unit placement kind t Outlines h = near_one (edge_graphic unit placement kind t) (near_edge_graphic unit placement kind t h)
near_graphic board unit placement kind t Front h = tt
near_graphic board unit placement kind t Back h = tt
near_graphic board unit placement kind t Elsewhere h = tt

pub near_curve : (t : Tree) (lies : LayerRole) → IsShort t → Near (curve_by t lies)
near_curve t (Copper layer) h = near_place t h
near_curve t Outlines h = near_place t h
near_curve t Front h = tt
near_curve t Back h = tt
near_curve t Elsewhere h = tt

pub near_writing : (unit : ℕ) (about : About) (t : Tree) (lies : LayerRole) → Near (text_by unit about t lies)
near_writing unit about t (Copper layer) = tt
near_writing unit about t Outlines = tt
near_writing unit about t Front = tt
near_writing unit about t Back = tt
near_writing unit about t Elsewhere = tt

-- ---- zones

near_zone_layers_among : (copper : LayerSet) (t : Tree) (a b : Option Tree) → IsShort t → ShortIf a → ShortIf b → Near (layers_among copper t a b)
near_zone_layers_among copper t (Some a) b h k l = of_atom 1 a _ k (λ x s. step (named copper x) _ (near_named copper x s) (λ sets. tt))
near_zone_layers_among copper t None (Some b) h k l = near_layers copper b l
near_zone_layers_among copper t None None h k l = near_place t h

near_zone_layers : (copper : LayerSet) (t : Tree) → IsShort t → Near (zone_layers copper t)
unfolding zone_layers
near_zone_layers copper t h =
    near_zone_layers_among copper t (element (codes "layer") t) (element (codes "layers") t) h (near_element (codes "layer") t h) (near_element (codes "layers") t h)

near_title : (t : Tree) → IsShort t → Near (title_of t)
unfolding title_of
near_title t h = of_element (codes "name") [] _ t h (λ s k. of_atom 1 s _ k (λ a u. tt))

near_ban : (head : List ℕ) (t : Tree) → IsShort t → Near (ban_of head t)
near_ban head t h = of_element head false _ t h (λ s k. of_atom 1 s _ k (λ a u. tt))

near_bans : (t : Tree) → IsShort t → Near (bans_in t)
unfolding bans_in
near_bans t h =
    step (ban_of (codes "tracks") t) _ (near_ban (codes "tracks") t h) (λ a.
    step (ban_of (codes "vias") t) _ (near_ban (codes "vias") t h) (λ b.
    step (ban_of (codes "pads") t) _ (near_ban (codes "pads") t h) (λ c.
    step (ban_of (codes "footprints") t) _ (near_ban (codes "footprints") t h) (λ d. tt))))

near_polygon : (t : Tree) → IsShort t → Near (polygon_of t)
unfolding polygon_of
near_polygon t h = in_one corners_of t (element (codes "polygon") t) h (near_element (codes "polygon") t h) near_corners

near_area : (board : PlainBoard) (unit : ℕ) (t : Tree) (corners : List RawPoint) → IsShort t → Near (area_in_capacity board unit t corners)
unfolding area_in_capacity
near_area board unit t corners h =
    step (needed (OutOfBoard (place t)) (area_of corners)) _ (near_needed (OutOfBoard (place t)) (area_of corners) (near_place t h)) (λ s.
    step (check (TooMany (place t)) (has_capacity_after 0 board unit)) _ (near_check (TooMany (place t)) (has_capacity_after 0 board unit) (near_place t h)) (λ u. tt))

near_rule_area : (board : PlainBoard) (unit : ℕ) (t : Tree) (net : ℕ) (layers : LayerSet) (title : List ℕ) (keepout : Tree) → IsShort t → IsShort keepout → Near (rule_area board unit t net layers title keepout)
unfolding rule_area
near_rule_area board unit t net layers title keepout h k =
    step (polygon_of t) _ (near_polygon t h) (λ corners.
    step (bans_in keepout) _ (near_bans keepout k) (λ bans.
    step (area_in_capacity board unit t corners) _ (near_area board unit t corners h) (λ shape. tt)))

near_fill_layer : (copper : LayerSet) (t : Tree) → IsShort t → Near (fill_layer copper t)
unfolding fill_layer
near_fill_layer copper t h =
    with_tree (needed (Missing (place t)) (element (codes "layer") t)) _ (needed_short (Missing (place t)) (element (codes "layer") t) (near_place t h) (near_element (codes "layer") t h)) (λ layer s.
    of_atom 1 layer (layer_in copper) s (near_layer copper))

near_fill_on : (unit net : ℕ) (t : Tree) (layer : ℕ) (list : Tree) → IsShort list → Near (fill_on unit net t layer list)
unfolding fill_on
near_fill_on unit net t layer list h =
    step (corners_of list) _ (near_corners list h) (λ corners.
    step (needed (OutOfBoard (place list)) (area_of corners)) _ (near_needed (OutOfBoard (place list)) (area_of corners) (near_place list h)) (λ shape. tt))

near_fill_in_capacity : (found : ℕ) (board : PlainBoard) (unit net : ℕ) (t list : Tree) (layer : ℕ) → IsShort t → IsShort list → Near (fill_in_capacity found board unit net t list layer)
unfolding fill_in_capacity
near_fill_in_capacity found board unit net t list layer h k =
    step (check (ThickFill (place t)) (is_thin t)) _ (near_check (ThickFill (place t)) (is_thin t) (near_place t h)) (λ u.
    step (fill_on unit net t layer list) _ (near_fill_on unit net t layer list k) (λ fill.
    step (check (TooMany (place list)) (has_capacity_after found board unit)) _ (near_check (TooMany (place list)) (has_capacity_after found board unit) (near_place list k)) (λ v. tt)))

near_with_fill : (found : ℕ) (board : PlainBoard) (unit net : ℕ) (t list : Tree) (over more : Result (List Item) BoardError) (o : Option ℕ) → IsShort t → IsShort list → Near over → Near more
    → Near (with_fill found board unit net t list over more o)
near_with_fill found board unit net t list over more None h k l m = l
near_with_fill found board unit net t list over more (Some layer) h k l m =
    step (fill_in_capacity found board unit net t list layer) _ (near_fill_in_capacity found board unit net t list layer h k) (λ fill. step more _ m (λ fills. tt))

near_fills : (found : ℕ) (board : PlainBoard) (unit net : ℕ) (t : Tree) (ts : List Tree) → IsShort t → AllShort ts → Near (fills_after found board unit net t ts)
near_fills found board unit net t [] h k = tt
near_fills found board unit net t (u ∷ us) h k =
    by_test (has_head (codes "filled_polygon") u) _ _
    (step (fill_layer board.copper u) _ (near_fill_layer board.copper u k.0) (λ o.
    near_with_fill found board unit net t u (fills_after found board unit net t us) (fills_after (suc found) board unit net t us) o h k.0 (near_fills found board unit net t us h k.1) (near_fills (suc found) board unit net t us h k.1)))
    (near_fills found board unit net t us h k.1)

near_zone_by : (board : PlainBoard) (unit : ℕ) (t : Tree) (net : ℕ) (layers : LayerSet) (title : List ℕ) (o : Option Tree) → IsShort t → ShortIf o → Near (zone_by board unit t net layers title o)
near_zone_by board unit t net layers title (Some keepout) h k = step (rule_area board unit t net layers title keepout) _ (near_rule_area board unit t net layers title keepout h k) (λ item. tt)
near_zone_by board unit t net layers title None h k = near_fills 0 board unit net t (parts t) h (parts_short t h)

pub near_zone : (board : PlainBoard) (unit : ℕ) (t : Tree) → IsShort t → Near (zone_of board unit t)
unfolding zone_of
near_zone board unit t h =
    step (net_of board t) _ (near_net board t h) (λ net.
    step (zone_layers board.copper t) _ (near_zone_layers board.copper t h) (λ layers.
    step (title_of t) _ (near_title t h) (λ title.
    near_zone_by board unit t net layers title (element (codes "keepout") t) h (near_element (codes "keepout") t h))))

-- ---- tracks and vias

pub near_track : (board : PlainBoard) (unit : ℕ) (t : Tree) → IsShort t → Near (track_of board unit t)
unfolding track_of
near_track board unit t h =
    step (raw_point_of (codes "start") t) _ (near_raw_point_of (codes "start") t h) (λ a.
    step (raw_point_of (codes "end") t) _ (near_raw_point_of (codes "end") t h) (λ b.
    step (size_of (codes "width") t) _ (near_size_of (codes "width") t h) (λ w.
    step (layer_of board.copper t) _ (near_layer_of board.copper t h) (λ layer.
    step (net_of board t) _ (near_net board t h) (λ net.
    near_needed (OutOfBoard (place t)) _ (near_place t h))))))

pub near_via : (board : PlainBoard) (unit : ℕ) (t : Tree) → IsShort t → Near (via_of board unit t)
unfolding via_of
near_via board unit t h =
    step (raw_point_of (codes "at") t) _ (near_raw_point_of (codes "at") t h) (λ a.
    step (size_of (codes "size") t) _ (near_size_of (codes "size") t h) (λ s.
    step (in_given size_at (element (codes "drill") t)) _ (in_some size_at (element (codes "drill") t) (near_element (codes "drill") t h) near_size_at) (λ d.
    step (in_needed (layers_through board.copper) t (element (codes "layers") t)) _ (in_one (layers_through board.copper) t (element (codes "layers") t) h (near_element (codes "layers") t h) (near_through board.copper)) (λ layers.
    step (net_of board t) _ (near_net board t h) (λ net.
    near_needed (OutOfBoard (place t)) _ (near_place t h))))))
