-- What a list gives is of the unit asked for, and lies on the board: tracks, vias, graphics, texts and zones.
use Rattle.std.proofs.Common.{◌≡◌, refl, sym, subst, ℕ, suc, Bool, true, false, ◌&&◌, cond, List, [], ◌∷◌, codes, Option, None, Some, Result, Ok}
use Rattle.int_algebra.proofs.Tested.{front}
use Rattle.sexpr_read.specs.Tree.{Tree, parts}
use Rattle.board_errors.specs.declared.errors.BoardError.{BoardError}
use Rattle.board_errors.specs.declared.errors.BoardError.TheVariants.{OutOfBoard, ThickFill, TooMany}
use Rattle.copper_layers.specs.declared.set.LayerSet.{LayerSet}
use Rattle.one_item.specs.declared.item.What.TheVariants.{Fill, Area}
use Rattle.one_item.specs.declared.item.Item.{Item}
use Rattle.copper_layers.specs.Layers.{single_layer}
use Rattle.board_items.specs.Boards.{PlainBoard}
use Rattle.part_read.specs.declared.on_board.Strip.{Strip}
use Rattle.part_read.specs.declared.graphics.LayerRole.{LayerRole}
use Rattle.list_read.specs.FirstRefusals.{◌>>=◌, needed, check}
use Rattle.list_read.specs.ListHeads.{place, has_head, has_word}
use Rattle.list_read.specs.NamedElements.{element}
use Rattle.part_read.specs.ElementResults.{in_needed, in_given, name_in}
use Rattle.part_read.specs.BoardNumbers.{raw_point_of, size_at, size_of}
use Rattle.part_read.specs.BoardLayers.{layer_of, layers_through}
use Rattle.part_read.specs.NetsOf.{net_of}
use Rattle.plain_types.specs.Lengths.{is_length}
use Rattle.part_read.specs.OnBoard.{fits_board, is_strip}
use Rattle.part_read.specs.Drawings.{corners_of}
use Rattle.part_read.specs.Figures.{first_of}
use Rattle.part_read.specs.PlainItems.{plain_item}
use Rattle.part_read.specs.Graphics.{layer_role_of, one_item, graphic_by, curve_by, text_by}
use Rattle.part_read.specs.Capacity.{has_capacity_after}
use Rattle.part_read.proofs.Reach.{both_ok}
use Rattle.zone_read.specs.ZoneOf.{as_it_is, zone_layers, title_of, area_of, bans_in, polygon_of, area_in_capacity, rule_area, is_thin, fill_layer, fill_on, fill_in_capacity, with_fill, fills_after, zone_by, zone_of}
use Rattle.zone_read.proofs.Admitting.{area_near}
use Rattle.roundtrip_lists.specs.Carried.{ItemsOf}
use Rattle.roundtrip_lists.proofs.Placed.{needed_ok, same_ok, made_of, one_of, none_of, corners_started, one_item_of, graphic_of, text_of_unit, curve_of_unit}
use Rattle.pcb_read.specs.declared.items.Origin.{Origin}
use Rattle.pcb_read.specs.declared.items.ViaForm.{ViaForm}
use Rattle.pcb_read.specs.declared.sorts.Sort.{Sort}
use Rattle.pcb_read.specs.declared.sorts.Sort.TheVariants.{Track, Via, Arc, Graphic, Curve, Text, Zone, Footprint}
use Rattle.pcb_read.specs.Tracks.{track_along, track_of, disc, is_hole, is_via, via_at, via_of}
use Rattle.pcb_read.specs.ItemsOf.{SaysItems, by_layer_role}
use Rattle.roundtrip_edited.specs.Footprints.{is_footprint}
use Rattle.roundtrip_edited.proofs.Units.{found_in_capacity}

-- ---- tracks and vias

along_stands : (strip : Strip) (origin : Origin) (item : Item) → track_along strip origin ≡ Some item → ItemsOf origin.unit (item ∷ [])
along_stands strip origin item h =
    let k = made_of (is_strip strip) _ item h in
    subst (λ (i : Item). ItemsOf origin.unit (i ∷ [])) k.1 (refl, front (fits_board strip.a) (fits_board strip.b) (front (fits_board strip.a && fits_board strip.b) (is_length strip.width) k.0), tt)

track_stands : (board : PlainBoard) (unit : ℕ) (tree : Tree) (item : Item) → track_of board unit tree ≡ Ok item → ItemsOf unit (item ∷ [])
unfolding track_of
track_stands board unit tree item h =
    let a = both_ok (raw_point_of (codes "start") tree) _ item h in
    let b = both_ok (raw_point_of (codes "end") tree) _ item a.1.1 in
    let c = both_ok (size_of (codes "width") tree) _ item b.1.1 in
    let e = both_ok (layer_of board.copper tree) _ item c.1.1 in
    let f = both_ok (net_of board tree) _ item e.1.1 in
    along_stands (record { a = a.0; b = b.0; width = c.0 }) (record { name = name_in tree; unit = unit; net = f.0; layers = single_layer e.0 }) item (needed_ok (OutOfBoard (place tree)) _ item f.1.1)

at_stands : (form : ViaForm) (origin : Origin) (item : Item) → via_at form origin ≡ Some item → ItemsOf origin.unit (item ∷ [])
at_stands form origin item h =
    let k = made_of (is_via form) _ item h in
    let fits = front (is_strip (disc form form.size)) (is_hole form) k.0 in
    subst (λ (i : Item). ItemsOf origin.unit (i ∷ [])) k.1 (refl, front (fits_board form.at) (fits_board form.at) (front (fits_board form.at && fits_board form.at) (is_length form.size) fits), tt)

via_stands : (board : PlainBoard) (unit : ℕ) (tree : Tree) (item : Item) → via_of board unit tree ≡ Ok item → ItemsOf unit (item ∷ [])
unfolding via_of
via_stands board unit tree item h =
    let a = both_ok (raw_point_of (codes "at") tree) _ item h in
    let b = both_ok (size_of (codes "size") tree) _ item a.1.1 in
    let c = both_ok (in_given size_at (element (codes "drill") tree)) _ item b.1.1 in
    let e = both_ok (in_needed (layers_through board.copper) tree (element (codes "layers") tree)) _ item c.1.1 in
    let f = both_ok (net_of board tree) _ item e.1.1 in
    at_stands (record { at = a.0; size = b.0; drill = c.0; micro = has_word (codes "micro") tree; blind = has_word (codes "blind") tree }) (record { name = name_in tree; unit = unit; net = f.0; layers = e.0 }) item
    (needed_ok (OutOfBoard (place tree)) _ item f.1.1)

-- ---- zones

area_stands : (board : PlainBoard) (unit : ℕ) (tree : Tree) (net : ℕ) (layers : LayerSet) (title : List ℕ) (keepout : Tree) (item : Item) → rule_area board unit tree net layers title keepout ≡ Ok item → ItemsOf unit (item ∷ [])
unfolding rule_area area_in_capacity polygon_of
area_stands board unit tree net layers title keepout item h =
    let a = both_ok (polygon_of tree) _ item h in
    let p = both_ok (needed _ (element (codes "polygon") tree)) corners_of a.0 a.1.0 in
    let b = both_ok (bans_in keepout) _ item a.1.1 in
    let c = both_ok (area_in_capacity board unit tree a.0) _ item b.1.1 in
    let e = both_ok (needed (OutOfBoard (place tree)) (area_of a.0)) _ c.0 c.1.0 in
    let near = area_near a.0 e.0 (corners_started p.0 a.0 p.1.1) (needed_ok (OutOfBoard (place tree)) (area_of a.0) e.0 e.1.0) in
    one_of unit item (plain_item (name_in tree) unit net (first_of a.0) [] (Area title b.0 (record { layers = layers; shape = c.0 })) refl) (item ∷ []) (same_ok c.1.1) refl refl near

fill_stands : (found : ℕ) (board : PlainBoard) (unit net : ℕ) (tree list : Tree) (layer : ℕ) (item : Item) → fill_in_capacity found board unit net tree list layer ≡ Ok item → ItemsOf unit (item ∷ [])
unfolding fill_in_capacity fill_on
fill_stands found board unit net tree list layer item h =
    let a = both_ok (check (ThickFill (place tree)) (is_thin tree)) _ item h in
    let b = both_ok (fill_on unit net tree layer list) _ item a.1.1 in
    let c = both_ok (check (TooMany (place list)) (has_capacity_after found board unit)) _ item b.1.1 in
    let e = both_ok (corners_of list) _ b.0 b.1.0 in
    let f = both_ok (needed (OutOfBoard (place list)) (area_of e.0)) _ b.0 e.1.1 in
    let near = area_near e.0 f.0 (corners_started list e.0 e.1.0) (needed_ok (OutOfBoard (place list)) (area_of e.0) f.0 f.1.0) in
    subst (λ (i : Item). ItemsOf unit (i ∷ [])) (same_ok c.1.1) (one_of unit b.0 (plain_item (name_in tree) unit net (first_of e.0) (record { layers = single_layer layer; shape = f.0 } ∷ []) Fill refl) (b.0 ∷ []) (same_ok f.1.1) refl refl near)

with_stands : (found : ℕ) (board : PlainBoard) (unit net : ℕ) (tree list : Tree) (passed_over more : Result (List Item) BoardError) (o : Option ℕ) (items : List Item)
    → ((xs : List Item) → passed_over ≡ Ok xs → ItemsOf unit xs) → ((xs : List Item) → more ≡ Ok xs → ItemsOf unit xs) → with_fill found board unit net tree list passed_over more o ≡ Ok items → ItemsOf unit items
with_stands found board unit net tree list passed_over more None items h k e = h items e
with_stands found board unit net tree list passed_over more (Some layer) items h k e =
    let a = both_ok (fill_in_capacity found board unit net tree list layer) _ items e in
    let b = both_ok more _ items a.1.1 in
    let first = fill_stands found board unit net tree list layer a.0 a.1.0 in
    subst (λ (is : List Item). ItemsOf unit is) (same_ok b.1.1) (first.0, first.1, k b.0 b.1.0)

fills_stand : (board : PlainBoard) (unit net : ℕ) (tree : Tree) (ts : List Tree) (found : ℕ) (items : List Item) → fills_after found board unit net tree ts ≡ Ok items → ItemsOf unit items
fills_stand board unit net tree [] found items h = none_of unit items (same_ok h)
fills_stand board unit net tree (t ∷ ts) found items h = by_head (has_head (codes "filled_polygon") t) h (λ xs e. fills_stand board unit net tree ts found xs e) (λ xs e. fills_stand board unit net tree ts (suc found) xs e)
  where
    by_head : (b : Bool)
        → cond b (fill_layer board.copper t >>= with_fill found board unit net tree t (fills_after found board unit net tree ts) (fills_after (suc found) board unit net tree ts)) (fills_after found board unit net tree ts) ≡ Ok items
        → ((xs : List Item) → fills_after found board unit net tree ts ≡ Ok xs → ItemsOf unit xs) → ((xs : List Item) → fills_after (suc found) board unit net tree ts ≡ Ok xs → ItemsOf unit xs) → ItemsOf unit items
    by_head false e passed more = passed items e
    by_head true e passed more =
        let a = both_ok (fill_layer board.copper t) _ items e in
        with_stands found board unit net tree t (fills_after found board unit net tree ts) (fills_after (suc found) board unit net tree ts) a.0 items passed more a.1.1

zone_by_stands : (board : PlainBoard) (unit : ℕ) (tree : Tree) (net : ℕ) (layers : LayerSet) (title : List ℕ) (o : Option Tree) (items : List Item) → zone_by board unit tree net layers title o ≡ Ok items → ItemsOf unit items
zone_by_stands board unit tree net layers title None items h = fills_stand board unit net tree (parts tree) 0 items h
zone_by_stands board unit tree net layers title (Some keepout) items h =
    let a = both_ok (rule_area board unit tree net layers title keepout) _ items h in
    subst (λ (is : List Item). ItemsOf unit is) (same_ok a.1.1) (area_stands board unit tree net layers title keepout a.0 a.1.0)

zone_stands : (board : PlainBoard) (unit : ℕ) (tree : Tree) (items : List Item) → zone_of board unit tree ≡ Ok items → ItemsOf unit items
unfolding zone_of
zone_stands board unit tree items h =
    let a = both_ok (net_of board tree) _ items h in
    let b = both_ok (zone_layers board.copper tree) _ items a.1.1 in
    let c = both_ok (title_of tree) _ items b.1.1 in
    zone_by_stands board unit tree a.0 b.0 c.0 (element (codes "keepout") tree) items c.1.1

-- ---- lists of each sort but footprints

layer_role_stands : (board : PlainBoard) (unit : ℕ) (tree : Tree) (given : LayerRole → Result (List Item) BoardError) (items : List Item) → ((lies : LayerRole) → given lies ≡ Ok items → ItemsOf unit items) → by_layer_role board tree given ≡ Ok items → ItemsOf unit items
layer_role_stands board unit tree given items law h = let a = both_ok (layer_role_of board.copper tree) given items h in law a.0 a.1.1

pub list_stands : (board : PlainBoard) (unit : ℕ) (tree : Tree) (sort : Sort) (items : List Item) → is_footprint sort ≡ false → SaysItems board unit tree sort (Ok items) → ItemsOf unit items
list_stands board unit tree Track items e h =
    one_item_of unit (track_of board unit tree) items (λ item k. track_stands board unit tree item k) (found_in_capacity board unit tree (one_item (track_of board unit tree)) items h)
list_stands board unit tree Via items e h =
    one_item_of unit (via_of board unit tree) items (λ item k. via_stands board unit tree item k) (found_in_capacity board unit tree (one_item (via_of board unit tree)) items h)
list_stands board unit tree Arc items e h = absurd cc
list_stands board unit tree (Graphic kind) items e h =
    layer_role_stands board unit tree (graphic_by board unit as_it_is kind tree) items (λ lies k. graphic_of board unit as_it_is kind tree lies items k)
    (found_in_capacity board unit tree (by_layer_role board tree (graphic_by board unit as_it_is kind tree)) items h)
list_stands board unit tree Curve items e h = layer_role_stands board unit tree (curve_by tree) items (λ lies k. curve_of_unit unit tree lies items k) (sym h)
list_stands board unit tree (Text about) items e h =
    layer_role_stands board unit tree (text_by unit about tree) items (λ lies k. text_of_unit unit about tree lies items k) (found_in_capacity board unit tree (by_layer_role board tree (text_by unit about tree)) items h)
list_stands board unit tree Zone items e h = zone_stands board unit tree items (sym h)
list_stands board unit tree Footprint items e h = absurd cc
