-- Pads: (pad "NUMBER" TYPE SHAPE (at X Y ANGLE) (size W H) (drill ..) (layers NAME ..) .. (net N) (clearance C)), its elements in this
-- order. An offset moves the copper of a pad and not its hole.
use Rattle.std.specs.Prelude.{◌≡◌, ℕ, ℤ, pos, int_lt, Bool, true, false, ◌&&◌, not, ◌==◌, List, [], ◌∷◌, ◌++◌, codes, Option, None, Some, option_map, option_and_then, Result, Ok, refl, if◌then◌else◌}
use Rattle.std.proofs.Common.{subst}
use Rattle.sexpr_read.specs.Tree.{Tree}
use Rattle.geo_seg.specs.declared.shapes.Shape.{Shape}
use Rattle.plain_types.specs.Lengths.{IsLengthIfSome, is_length}
use Rattle.board_errors.specs.declared.errors.BoardError.{BoardError}
use Rattle.board_errors.specs.declared.errors.BoardError.TheVariants.{OutOfBoard}
use Rattle.copper_layers.specs.declared.set.LayerSet.{LayerSet}
use Rattle.one_item.specs.declared.parts.Part.{Part}
use Rattle.one_item.specs.declared.item.Hole.{Hole}
use Rattle.one_item.specs.declared.item.What.TheVariants.{Pad}
use Rattle.one_item.specs.declared.item.Item.{Item}
use Rattle.board_items.specs.Boards.{PlainBoard}
use Rattle.part_read.specs.declared.numbers.RawPoint.{RawPoint}
use Rattle.part_read.specs.declared.placements.Placement.{Placement}
use Rattle.part_read.specs.declared.figures.Drawing.{Drawing}
use Rattle.list_read.specs.FirstRefusals.{◌>>=◌, needed}
use Rattle.list_read.specs.ListHeads.{place, text_of}
use Rattle.list_read.specs.NamedElements.{element}
use Rattle.part_read.specs.There.{both}
use Rattle.part_read.specs.ElementResults.{atom_of, in_needed, name_in}
use Rattle.plain_types.proofs.LengthTests.{length_in_range}
use Rattle.part_read.specs.OnBoard.{tested, fits_board}
use Rattle.part_read.specs.BoardLayers.{layers_named}
use Rattle.part_read.specs.NetsOf.{net_of}
use Rattle.part_read.specs.Placements.{stood}
use Rattle.part_read.specs.PlainItems.{unmeasured}
use Rattle.part_read.specs.Figures.{drawn}
use Rattle.pad_read.specs.declared.sizes.Sizes.{Sizes}
use Rattle.pad_read.specs.declared.sizes.RoundedRect.{RoundedRect}
use Rattle.pad_read.specs.declared.pads.PadType.{PadType}
use Rattle.pad_read.specs.declared.pads.PadType.TheVariants.{NpThruHole}
use Rattle.pad_read.specs.declared.pads.PadWord.{PadWord}
use Rattle.pad_read.specs.declared.pads.PadWord.TheVariants.{Circle, Rect, Oval, RoundRect, Custom}
use Rattle.pad_read.specs.declared.pads.Frame.{Frame}
use Rattle.pad_read.specs.declared.forms.Form.{Form}
use Rattle.pad_read.specs.declared.labels.Label.{Label}
use Rattle.pad_read.specs.declared.head.Head.{Head}
use Rattle.pad_read.specs.LocalPlacements.{clearance_of}
use Rattle.pad_read.specs.PadSizes.{least_of, are_equal}
use Rattle.pad_read.specs.PadShapes.{circle_rounded_rect, rect_rounded_rect, oval_rounded_rect, round_rounded_rect, round_radius, turned_rounded_rect, rounded_rect_at}
use Rattle.pad_read.specs.CustomPads.{anchor_of, primitives_of, primitives_fit}
use Rattle.pad_read.specs.PadFrames.{hole_sizes, is_plated, frame_of}

-- ---- its form: what is all within a radius of a box, and what else is drawn

-- the form that is a rounded rectangle alone
abbrev pub without_primitives : RoundedRect → Form
without_primitives rounded_rect = record { rounded_rect = rounded_rect; primitives = [] }

-- the form of a pad of this shape and these sizes
abbrev pub form_of : PadWord → Sizes → Tree → Result Form BoardError
form_of Circle s tree = Ok (without_primitives (circle_rounded_rect s))
form_of Rect s tree = Ok (without_primitives (rect_rounded_rect s))
form_of Oval s tree = Ok (without_primitives (oval_rounded_rect s))
form_of RoundRect s tree = round_radius s tree >>= λ r. Ok (without_primitives (round_rounded_rect s r))
form_of Custom s tree = do
  anchor ← anchor_of s tree
  primitives ← primitives_of tree
  Ok (record { rounded_rect = anchor; primitives = primitives })

-- ---- its copper, if it lies on the board

-- the parts of all drawings, in order, if they all lie on the board
abbrev pub all_drawn : LayerSet → Placement → List Drawing → Option (List Part)
all_drawn layers placement [] = Some []
all_drawn layers placement (d ∷ ds) = both (λ ps qs. ps ++ qs) (drawn layers placement d) (all_drawn layers placement ds)

-- the parts behind the one of this shape
abbrev pub with_part : LayerSet → Shape → List Part → List Part
with_part layers shape parts = record { layers = layers; shape = shape } ∷ parts

-- what stands so has its rounded rectangle in the middle, and the primitives around it
abbrev pub copper_of : LayerSet → Placement → Form → Option (List Part)
copper_of layers placement form =
    both (with_part layers) (rounded_rect_at placement.at (turned_rounded_rect placement.quarter form.rounded_rect)) (all_drawn layers placement form.primitives)

-- the pad is as large as its hole
abbrev pub equals_drill : Sizes → Option Sizes → Bool
equals_drill s None = false
equals_drill s (Some d) = are_equal s d

-- a pad on no copper layer has none, nor has a hole that is not plated and as large as its pad
abbrev pub has_copper : PadType → LayerSet → Sizes → Option Sizes → Bool
has_copper NpThruHole layers s drill = not (layers.bits == 0) && not (equals_drill s drill)
has_copper type layers s drill = not (layers.bits == 0)

-- the middle of the copper: the offset is turned with the pad
abbrev pub middle_of : Frame → Placement
middle_of f = record { quarter = f.quarter; at = stood (record { quarter = f.quarter; at = f.at }) f.drilling.offset }

-- the copper of a pad on these layers, if it lies on the board
abbrev pub frame_copper : LayerSet → Frame → Form → Option (List Part)
frame_copper layers f form = if has_copper f.pad_type layers f.sizes f.drilling.sizes then copper_of layers (middle_of f) form else Some []

-- ---- its hole, if it lies on the board

-- the hole of these sizes and this shape, whose smaller size is a length
abbrev pub hole_with : LayerSet → Bool → (s : Sizes) → Shape → is_length (least_of s) ≡ true → Hole
hole_with layers plated s shape fits = record { shape = shape; layers = layers; plated = plated; least = least_of s; least_in_range = length_in_range (least_of s) fits }

-- the hole of these sizes and this shape, if its smaller size is a length
abbrev pub hole_by : LayerSet → Bool → Sizes → Shape → Option Hole
hole_by layers plated s shape = tested (is_length (least_of s)) (hole_with layers plated s shape)

-- the hole of these sizes, if there is one: round or oval, through all copper layers
abbrev pub hole_of : LayerSet → RawPoint → ℕ → Bool → Option Sizes → Option (Option Hole)
hole_of copper at quarter plated None = Some None
hole_of copper at quarter plated (Some s) =
    option_map (λ hole. Some hole) (option_and_then (hole_by copper plated s) (rounded_rect_at at (turned_rounded_rect quarter (oval_rounded_rect s))))

-- the hole of a pad stands at its position, and is turned with it
abbrev pub frame_hole : LayerSet → Frame → Option (Option Hole)
frame_hole copper f = hole_of copper f.at f.quarter (is_plated f.pad_type) (hole_sizes f.pad_type f.drilling.sizes)

-- ---- its clearance: its own, else that of the footprint

-- the number where it is above 0, else the other one
abbrev pub if_above_0 : ℤ → Option ℤ → Option ℤ
if_above_0 n otherwise = if int_lt (pos 0) n then Some n else otherwise

-- the clearance of a pad, if it has one: 0 and less count as none
abbrev pub local_of : ℤ → ℤ → Option ℤ
local_of own of_footprint = if_above_0 own (if_above_0 of_footprint None)

-- ---- what must lie on the board, and be at most 500 mm

-- both sizes are at most 500 mm
abbrev pub sizes_fit : Sizes → Bool
sizes_fit s = is_length s.w && is_length s.h

-- both sizes are at most 500 mm, if there are sizes
abbrev pub some_fit : Option Sizes → Bool
some_fit None = true
some_fit (Some s) = sizes_fit s

-- the position lies on the board, and the pad and its hole are at most 500 mm large
abbrev pub frame_fits : Frame → Bool
frame_fits f = fits_board f.at && (sizes_fit f.sizes && some_fit f.drilling.sizes)

-- the clearance is a length, if there is one
abbrev pub local_fits : Option ℤ → Bool
local_fits None = true
local_fits (Some n) = is_length n

-- and then it is in range
pub local_in_range : (local : Option ℤ) → local_fits local ≡ true → IsLengthIfSome local
local_in_range None h = λ n e. absurd cc
local_in_range (Some m) h = λ n e. length_in_range n (subst (λ (z : ℤ). is_length z ≡ true) (same e) h)
  where
    same : {a b : ℤ} → Some a ≡ Some b → a ≡ b
    same e = cc

-- ---- the item

-- the pad of this label at this raw point, with this copper and this hole
abbrev pub pad_item : (label : Label) → RawPoint → List Part → Option Hole → local_fits label.local ≡ true → Item
pad_item label at copper hole fits = record {
  name = label.name;
  unit = label.unit;
  net = label.net;
  x = at.x;
  y = at.y;
  copper = copper;
  hole = hole;
  local = label.local;
  what = Pad label.number label.reference;
  local_in_range = local_in_range label.local fits;
  what_in_range = unmeasured (Pad label.number label.reference) refl;
}

-- the pad of this label at this raw point, if its copper and its hole lie on the board and its clearance is a length
abbrev pub pad_with : Label → RawPoint → Option (List Part) → Option (Option Hole) → Option Item
pad_with label at copper hole =
    option_and_then (λ parts. option_and_then (λ drilled. tested (local_fits label.local) (pad_item label at parts drilled)) hole) copper

-- the pad, if it lies on the board and no size of it or of a primitive is above 500 mm
abbrev pub placed : LayerSet → LayerSet → Label → Frame → Form → Option Item
placed copper layers label f form = if frame_fits f && primitives_fit form.primitives then pad_with label f.at (frame_copper layers f form) (frame_hole copper f) else None

-- what a pad has besides its form
abbrev pub label_of : ℕ → ℕ → ℤ → Head → Tree → Tree → Label
label_of unit net own head number tree =
    record { name = name_in tree; unit = unit; net = net; number = text_of number; reference = head.reference; local = local_of own head.clearance }

-- the pad of a footprint with this head
unfoldable pub pad_of : PlainBoard → ℕ → Head → Tree → Result Item BoardError
pad_of board unit head tree = do
  number ← atom_of 1 tree
  frame ← frame_of head.placement tree
  layers ← in_needed (layers_named board.copper) tree (element (codes "layers") tree)
  form ← form_of frame.word frame.sizes tree
  net ← net_of board tree
  own ← clearance_of tree
  needed (OutOfBoard (place tree)) (placed board.copper layers (label_of unit net own head number tree) frame form)
