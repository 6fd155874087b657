-- Graphics and texts of boards and of footprints: the items that their lists give. A graphic lies on a copper layer of the board,
-- on Edge.Cuts, or elsewhere, where it is passed over; so it is where it has no layer.
use Rattle.std.specs.Prelude.{ℕ, pos, not, List, [], ◌∷◌, codes, Option, None, Some, Result, Ok, Err, refl, if◌then◌else◌}
use Rattle.sexpr_read.specs.Tree.{Tree}
use Rattle.board_errors.specs.declared.errors.BoardError.{BoardError}
use Rattle.board_errors.specs.declared.errors.BoardError.TheVariants.{OutOfBoard, Arc, Ring}
use Rattle.copper_layers.specs.declared.set.LayerSet.{LayerSet}
use Rattle.one_item.specs.declared.item.About.{About}
use Rattle.one_item.specs.declared.item.What.TheVariants.{Graphic, Edge, Note}
use Rattle.one_item.specs.declared.item.Item.{Item}
use Rattle.copper_layers.specs.Layers.{single_layer}
use Rattle.board_items.specs.Boards.{PlainBoard}
use Rattle.part_read.specs.declared.placements.Placement.{Placement}
use Rattle.part_read.specs.declared.drawings.GraphicKind.{GraphicKind}
use Rattle.part_read.specs.declared.graphics.LayerRole.{LayerRole}
use Rattle.part_read.specs.declared.graphics.LayerRole.TheVariants.{Copper, Outlines, Front, Back, Elsewhere}
use Rattle.list_read.specs.FirstRefusals.{◌>>=◌, needed, check}
use Rattle.list_read.specs.ListHeads.{place, is_text}
use Rattle.list_read.specs.NamedElements.{element}
use Rattle.part_read.specs.ElementResults.{atom_of, name_among, name_in}
use Rattle.part_read.specs.PlainItems.{plain_item}
use Rattle.part_read.specs.BoardLayers.{drawn_on}
use Rattle.part_read.specs.NetsOf.{net_of}
use Rattle.part_read.specs.Placements.{stood}
use Rattle.part_read.specs.Figures.{drawn, drawn_edge, first_raw_point, is_ring, is_circle}
use Rattle.part_read.specs.Drawings.{drawing_of}

-- ---- where a graphic lies

-- where a graphic lies whose layer has this name: on the copper layer of this number, where it is one
abbrev pub layer_role_by : Tree → Option ℕ → LayerRole
layer_role_by atom (Some layer) = Copper layer
layer_role_by atom None =
    if is_text atom (codes "Edge.Cuts") then Outlines
    else if is_text atom (codes "F.CrtYd") then Front
    else if is_text atom (codes "B.CrtYd") then Back
    else Elsewhere

-- where a graphic lies whose layer this element names; without one it lies elsewhere
abbrev pub layer_role_among : LayerSet → Option Tree → Result LayerRole BoardError
layer_role_among copper None = Ok Elsewhere
layer_role_among copper (Some list) = do
  atom ← atom_of 1 list
  layer ← drawn_on copper atom
  Ok (layer_role_by atom layer)

-- the role of the layer that (layer NAME) names; a copper layer that the board has not is refused
unfoldable pub layer_role_of : LayerSet → Tree → Result LayerRole BoardError
layer_role_of copper tree = layer_role_among copper (element (codes "layer") tree)

-- ---- items

-- a graphic on a copper layer: its net is read last of its elements; an open circle is refused
unfoldable pub copper_graphic : PlainBoard → ℕ → Placement → GraphicKind → ℕ → Tree → Result Item BoardError
copper_graphic board unit placement kind layer tree = do
  drawing ← drawing_of kind tree
  net ← net_of board tree
  solid ← check (Ring (place tree)) (not (is_ring drawing))
  copper ← needed (OutOfBoard (place tree)) (drawn (single_layer layer) placement drawing)
  Ok (plain_item (name_in tree) unit net (stood placement (first_raw_point drawing.figure)) copper Graphic refl)

-- a graphic on Edge.Cuts, of which the lines alone count; a circle is refused
unfoldable pub edge_graphic : ℕ → Placement → GraphicKind → Tree → Result Item BoardError
edge_graphic unit placement kind tree = do
  drawing ← drawing_of kind tree
  round ← check (Ring (place tree)) (not (is_circle drawing.figure))
  lines ← needed (OutOfBoard (place tree)) (drawn_edge placement drawing)
  Ok (plain_item (name_in tree) unit 0 (stood placement (first_raw_point drawing.figure)) [] (Edge lines) refl)

-- a note of something that is not checked, on the layer of this name
abbrev pub note_of : List ℕ → ℕ → About → List ℕ → Item
note_of name unit about layer = plain_item name unit 0 (record { x = pos 0; y = pos 0 }) [] (Note about layer) refl

-- ---- by where they lie

-- the list of an item that was read
abbrev pub one_item : Result Item BoardError → Result (List Item) BoardError
one_item answer = answer >>= λ item. Ok (item ∷ [])

-- the items of a graphic: one on copper or on Edge.Cuts, none elsewhere
abbrev pub graphic_by : PlainBoard → ℕ → Placement → GraphicKind → Tree → LayerRole → Result (List Item) BoardError
graphic_by board unit placement kind tree (Copper layer) = one_item (copper_graphic board unit placement kind layer tree)
graphic_by board unit placement kind tree Outlines = one_item (edge_graphic unit placement kind tree)
graphic_by board unit placement kind tree lies = Ok []

-- arcs and curves are refused where graphics count
abbrev pub curve_by : Tree → LayerRole → Result (List Item) BoardError
curve_by tree (Copper layer) = Err (Arc (place tree))
curve_by tree Outlines = Err (Arc (place tree))
curve_by tree lies = Ok []

-- texts and dimensions on copper are not checked, and noted
abbrev pub text_by : ℕ → About → Tree → LayerRole → Result (List Item) BoardError
text_by unit about tree (Copper layer) = Ok (note_of (name_in tree) unit about (name_among (element (codes "layer") tree)) ∷ [])
text_by unit about tree lies = Ok []
