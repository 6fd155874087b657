-- Zones: the items that (zone (net N) (layer NAME) (name TEXT) ..) gives. With `keepout` it is a rule area, by its polygon; else each
-- filled polygon on copper is a fill. The elements are looked at in this order.
use Rattle.std.specs.Prelude.{ℕ, suc, pos, Bool, false, List, [], ◌∷◌, codes, Option, None, Some, option_map, Result, Ok, Err, refl, if◌then◌else◌}
use Rattle.sexpr_read.specs.Tree.{Tree, parts}
use Rattle.geo_seg.specs.declared.points.Point.{Point}
use Rattle.geo_seg.specs.declared.shapes.Core.TheVariants.{Area as AreaCore}
use Rattle.geo_seg.specs.declared.shapes.Shape.{Shape}
use Rattle.board_errors.specs.declared.errors.BoardError.{BoardError}
use Rattle.board_errors.specs.declared.errors.BoardError.TheVariants.{Missing, OutOfBoard, ThickFill, TooMany}
use Rattle.copper_layers.specs.declared.set.LayerSet.{LayerSet}
use Rattle.one_item.specs.declared.item.Bans.{Bans}
use Rattle.one_item.specs.declared.item.What.TheVariants.{Fill, Area}
use Rattle.one_item.specs.declared.item.Item.{Item}
use Rattle.copper_layers.specs.Layers.{single_layer}
use Rattle.board_items.specs.Boards.{PlainBoard}
use Rattle.part_read.specs.declared.numbers.RawPoint.{RawPoint}
use Rattle.part_read.specs.declared.placements.Placement.{Placement}
use Rattle.list_read.specs.FirstRefusals.{◌>>=◌, needed, check}
use Rattle.list_read.specs.ListHeads.{place, text_of, is_text, has_head}
use Rattle.list_read.specs.NamedElements.{element}
use Rattle.part_read.specs.ElementResults.{in_needed, given_or, atom_of, name_in}
use Rattle.part_read.specs.BoardLayers.{layer_in, layers_named, named}
use Rattle.part_read.specs.LayersWhere.{layers_of_any}
use Rattle.part_read.specs.NetsOf.{net_of}
use Rattle.part_read.specs.Placements.{points_stood}
use Rattle.part_read.specs.Figures.{first_of, no_radius, around}
use Rattle.part_read.specs.Drawings.{corners_of}
use Rattle.part_read.specs.PlainItems.{plain_item}
use Rattle.part_read.specs.Capacity.{has_capacity_after}

-- ---- layers and name

-- the layers that the element `layer` names, else those of the element `layers`
abbrev pub layers_among : LayerSet → Tree → Option Tree → Option Tree → Result LayerSet BoardError
layers_among copper tree (Some layer) layers = do
  atom ← atom_of 1 layer
  sets ← named copper atom
  Ok (layers_of_any sets)
layers_among copper tree None (Some layers) = layers_named copper layers
layers_among copper tree None None = Err (Missing (place tree))

-- the copper layers of (layer NAME), else of (layers NAME ..), of which one must be there
unfoldable pub zone_layers : LayerSet → Tree → Result LayerSet BoardError
zone_layers copper tree = layers_among copper tree (element (codes "layer") tree) (element (codes "layers") tree)

-- the text of (name TEXT), or the empty one
unfoldable pub title_of : Tree → Result (List ℕ) BoardError
title_of tree = given_or [] (λ list. atom_of 1 list >>= λ atom. Ok (text_of atom)) (element (codes "name") tree)

-- ---- areas with their inside

-- nothing is turned or moved
abbrev pub as_it_is : Placement
as_it_is = record { quarter = 0; at = record { x = pos 0; y = pos 0 } }

-- an area has no width
abbrev pub area_with : List Point → Shape
area_with points = around no_radius (AreaCore points)

-- the polygon of these corners, if it lies on the board
abbrev pub area_of : List RawPoint → Option Shape
area_of corners = option_map area_with (points_stood as_it_is corners)

-- ---- rule areas

-- whether (HEAD not_allowed) stands in the list
abbrev pub ban_of : List ℕ → Tree → Result Bool BoardError
ban_of head list = given_or false (λ found. atom_of 1 found >>= λ atom. Ok (is_text atom (codes "not_allowed"))) (element head list)

-- what a rule area bans
unfoldable pub bans_in : Tree → Result Bans BoardError
bans_in list = do
  tracks ← ban_of (codes "tracks") list
  vias ← ban_of (codes "vias") list
  pads ← ban_of (codes "pads") list
  footprints ← ban_of (codes "footprints") list
  Ok (record { tracks = tracks; vias = vias; pads = pads; footprints = footprints })

-- the corners of (polygon (pts (xy X Y) ..))
unfoldable pub polygon_of : Tree → Result (List RawPoint) BoardError
polygon_of tree = in_needed corners_of tree (element (codes "polygon") tree)

-- the area of these corners, if it lies on the board and there is room for it
unfoldable pub area_in_capacity : PlainBoard → ℕ → Tree → List RawPoint → Result Shape BoardError
area_in_capacity board unit tree corners = do
  shape ← needed (OutOfBoard (place tree)) (area_of corners)
  capacity ← check (TooMany (place tree)) (has_capacity_after 0 board unit)
  Ok shape

-- the rule area of a zone: its polygon is looked at before its bans
unfoldable pub rule_area : PlainBoard → ℕ → Tree → ℕ → LayerSet → List ℕ → Tree → Result Item BoardError
rule_area board unit tree net layers title keepout = do
  corners ← polygon_of tree
  bans ← bans_in keepout
  shape ← area_in_capacity board unit tree corners
  Ok (plain_item (name_in tree) unit net (first_of corners) [] (Area title bans (record { layers = layers; shape = shape })) refl)

-- ---- fills

-- this element says that the fills have no outline with a width: (filled_areas_thickness no)
abbrev pub is_thin_by : Option Tree → Bool
is_thin_by None = false
is_thin_by (Some list) = is_no (atom_of 1 list)
  where
    is_no : Result Tree BoardError → Bool
    is_no (Ok atom) = is_text atom (codes "no")
    is_no (Err e) = false

-- the zone says so in its element, which may be missing
unfoldable pub is_thin : Tree → Bool
is_thin tree = is_thin_by (element (codes "filled_areas_thickness") tree)

-- the copper layer of a filled polygon; None for one that is passed over
unfoldable pub fill_layer : LayerSet → Tree → Result (Option ℕ) BoardError
fill_layer copper list = do
  layer ← needed (Missing (place list)) (element (codes "layer") list)
  atom ← atom_of 1 layer
  layer_in copper atom

-- the fill of a filled polygon on this layer, which must lie on the board
unfoldable pub fill_on : ℕ → ℕ → Tree → ℕ → Tree → Result Item BoardError
fill_on unit net tree layer list = do
  corners ← corners_of list
  shape ← needed (OutOfBoard (place list)) (area_of corners)
  Ok (plain_item (name_in tree) unit net (first_of corners) (record { layers = single_layer layer; shape = shape } ∷ []) Fill refl)

-- the fill of a polygon on this layer, after so many, if its outline has no width and there is room for it
unfoldable pub fill_in_capacity : ℕ → PlainBoard → ℕ → ℕ → Tree → Tree → ℕ → Result Item BoardError
fill_in_capacity found board unit net tree list layer = do
  thin ← check (ThickFill (place tree)) (is_thin tree)
  fill ← fill_on unit net tree layer list
  capacity ← check (TooMany (place list)) (has_capacity_after found board unit)
  Ok fill

-- that fill, and those that follow it; or those that follow one that is passed over
abbrev pub with_fill : ℕ → PlainBoard → ℕ → ℕ → Tree → Tree → Result (List Item) BoardError → Result (List Item) BoardError → Option ℕ → Result (List Item) BoardError
with_fill found board unit net tree list passed_over more None = passed_over
with_fill found board unit net tree list passed_over more (Some layer) = do
  fill ← fill_in_capacity found board unit net tree list layer
  fills ← more
  Ok (fill ∷ fills)

-- the fills among the parts of the zone, after so many
abbrev pub fills_after : ℕ → PlainBoard → ℕ → ℕ → Tree → List Tree → Result (List Item) BoardError
fills_after found board unit net tree [] = Ok []
fills_after found board unit net tree (t ∷ ts) =
    if has_head (codes "filled_polygon") t
    then (fill_layer board.copper t >>= with_fill found board unit net tree t (fills_after found board unit net tree ts) (fills_after (suc found) board unit net tree ts))
    else fills_after found board unit net tree ts

-- ---- zones

-- the rule area where there is `keepout`, else the fills
abbrev pub zone_by : PlainBoard → ℕ → Tree → ℕ → LayerSet → List ℕ → Option Tree → Result (List Item) BoardError
zone_by board unit tree net layers title (Some keepout) = rule_area board unit tree net layers title keepout >>= λ item. Ok (item ∷ [])
zone_by board unit tree net layers title None = fills_after 0 board unit net tree (parts tree)

-- the items of a zone: its net, its layers and its name are looked at first
unfoldable pub zone_of : PlainBoard → ℕ → Tree → Result (List Item) BoardError
zone_of board unit tree = do
  net ← net_of board tree
  layers ← zone_layers board.copper tree
  title ← title_of tree
  zone_by board unit tree net layers title (element (codes "keepout") tree)
