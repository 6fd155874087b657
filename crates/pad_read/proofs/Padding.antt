-- A pad that was made may stand on its board.
use Rattle.std.proofs.Common.{◌≡◌, refl, ap, sym, subst, codes, ℕ, ℤ, Ok, List, [], ◌∷◌, ◌++◌, map, Bool, true, false, ◌&&◌, cond, is_some, IsTrue, Option, None, Some, option_map, option_and_then}
use Rattle.std.specs.List.{list_all}
use Rattle.sexpr_read.specs.Tree.{Tree}
use Rattle.geo_seg.specs.declared.shapes.Core.{Core}
use Rattle.geo_seg.specs.declared.shapes.Shape.{Shape}
use Rattle.int_algebra.proofs.Tested.{front}
use Rattle.copper_layers.specs.declared.set.LayerSet.{LayerSet}
use Rattle.one_item.specs.declared.parts.Part.{Part}
use Rattle.one_item.specs.declared.item.Hole.{Hole}
use Rattle.one_item.specs.declared.item.Item.{Item}
use Rattle.copper_layers.specs.Layers.{is_within}
use Rattle.one_item.specs.ItemParts.{hole_parts}
use Rattle.board_items.specs.Boards.{PlainBoard, name_of}
use Rattle.copper_layers.proofs.LayerLemmas.{within_layers}
use Rattle.part_read.specs.declared.numbers.RawPoint.{RawPoint}
use Rattle.part_read.specs.declared.placements.Placement.{Placement}
use Rattle.part_read.specs.declared.radii.Radius.{Radius}
use Rattle.part_read.specs.declared.figures.Drawing.{Drawing}
use Rattle.board_errors.specs.declared.errors.BoardError.TheVariants.{OutOfBoard}
use Rattle.list_read.specs.FirstRefusals.{needed}
use Rattle.list_read.specs.ListHeads.{place}
use Rattle.list_read.specs.NamedElements.{element}
use Rattle.part_read.specs.There.{both}
use Rattle.part_read.specs.ElementResults.{atom_of, in_needed}
use Rattle.part_read.specs.BoardLayers.{layers_named}
use Rattle.part_read.specs.NetsOf.{net_of}
use Rattle.plain_types.specs.Lengths.{is_length}
use Rattle.part_read.specs.OnBoard.{tested, fits_board}
use Rattle.part_read.specs.Figures.{around, parts_around, radius_of, radius_with, cores_of}
use Rattle.part_read.specs.Ready.{IsReady}
use Rattle.pad_read.specs.declared.sizes.Sizes.{Sizes}
use Rattle.pad_read.specs.declared.pads.Frame.{Frame}
use Rattle.pad_read.specs.declared.forms.Form.{Form}
use Rattle.pad_read.specs.declared.labels.Label.{Label}
use Rattle.pad_read.specs.declared.head.Head.{Head}
use Rattle.pad_read.specs.LocalPlacements.{clearance_of}
use Rattle.pad_read.specs.PadSizes.{least_of}
use Rattle.pad_read.specs.PadShapes.{oval_rounded_rect, turned_rounded_rect, rounded_rect_at}
use Rattle.pad_read.specs.PadFrames.{hole_sizes, is_plated, frame_of}
use Rattle.pad_read.specs.CustomPads.{primitives_fit}
use Rattle.pad_read.specs.PadOf.{all_drawn, with_part, copper_of, has_copper, middle_of, frame_copper, hole_with, hole_by, hole_of, frame_hole, local_fits, frame_fits, pad_item, pad_with, placed, form_of, label_of, pad_of}

abbrev AreOn : LayerSet → List Part → Type 0
AreOn copper ps = list_all (λ part. is_within part.layers copper) ps ≡ true

-- where there are parts, they lie on layers of the board
abbrev AreOnIf : LayerSet → Option (List Part) → Type 0
AreOnIf copper None = Unit {0}
AreOnIf copper (Some ps) = AreOn copper ps

two_hold : (a b : Bool) → a ≡ true → b ≡ true → a && b ≡ true
two_hold true true h k = refl
two_hold true false h k = cc
two_hold false b h k = cc

all_both : (copper : LayerSet) (ps qs : List Part) → AreOn copper ps → AreOn copper qs → AreOn copper (ps ++ qs)
all_both copper [] qs h k = k
all_both copper (p ∷ ps) qs h k = by (is_within p.layers copper) (list_all (λ part. is_within part.layers copper) ps) h (λ m. all_both copper ps qs m k)
  where
    by : (a b : Bool) {c : Bool} → a && b ≡ true → (b ≡ true → c ≡ true) → a && c ≡ true
    by true b h k = k h
    by false b h k = absurd cc

-- ---- copper

all_around : (layers copper : LayerSet) (r : Radius) (cores : List Core) → is_within layers copper ≡ true
    → AreOn copper (map (λ core. let p : Part = record { layers = layers; shape = around r core } in p) cores)
all_around layers copper r [] h = refl
all_around layers copper r (c ∷ cs) h = two_hold _ _ h (all_around layers copper r cs h)

around_on : (layers copper : LayerSet) (r : Option Radius) (cores : Option (List Core)) → is_within layers copper ≡ true → AreOnIf copper (both (parts_around layers) r cores)
around_on layers copper None cores h = tt
around_on layers copper (Some r) None h = tt
around_on layers copper (Some r) (Some cores) h = all_around layers copper r cores h

with_on : (copper : LayerSet) (ps qs : Option (List Part)) → AreOnIf copper ps → AreOnIf copper qs → AreOnIf copper (both (λ one other. one ++ other) ps qs)
with_on copper None qs h k = tt
with_on copper (Some ps) None h k = tt
with_on copper (Some ps) (Some qs) h k = all_both copper ps qs h k

drawn_on : (layers copper : LayerSet) (placement : Placement) (ds : List Drawing) → is_within layers copper ≡ true → AreOnIf copper (all_drawn layers placement ds)
drawn_on layers copper placement [] h = refl
drawn_on layers copper placement (d ∷ ds) h =
    with_on copper _ _ (around_on layers copper (radius_of (radius_with d.width d.figure)) (cores_of placement d.filled d.figure) h) (drawn_on layers copper placement ds h)

part_on : (layers copper : LayerSet) (shape : Option Shape) (ps : Option (List Part)) → is_within layers copper ≡ true → AreOnIf copper ps → AreOnIf copper (both (with_part layers) shape ps)
part_on layers copper None ps h k = tt
part_on layers copper (Some shape) None h k = tt
part_on layers copper (Some shape) (Some ps) h k = two_hold _ _ h k

copper_on : (layers copper : LayerSet) (f : Frame) (form : Form) → is_within layers copper ≡ true → AreOnIf copper (frame_copper layers f form)
copper_on layers copper f form h = by (has_copper f.pad_type layers f.sizes f.drilling.sizes)
  where
    by : (b : Bool) → AreOnIf copper (cond b (copper_of layers (middle_of f) form) (Some []))
    by true = part_on layers copper _ _ h (drawn_on layers copper (middle_of f) form.primitives h)
    by false = refl

-- ---- holes

abbrev HoleOnIf : LayerSet → Option (Option Hole) → Type 0
HoleOnIf copper None = Unit {0}
HoleOnIf copper (Some hole) = AreOn copper (hole_parts hole)

within_itself : (s : LayerSet) → is_within s s ≡ true
within_itself s = (within_layers s s).1 (λ layer h. h)

tested_on : (copper : LayerSet) (plated : Bool) (s : Sizes) (shape : Shape) → HoleOnIf copper (option_map (λ hole. Some hole) (hole_by copper plated s shape))
tested_on copper plated s shape = by (is_length (least_of s)) (hole_with copper plated s shape) (λ h. refl)
  where
    by : (b : Bool) (make : b ≡ true → Hole) → ((h : b ≡ true) → (make h).layers ≡ copper) → HoleOnIf copper (option_map (λ hole. Some hole) (tested b make))
    by true make same = two_hold _ _ (subst (λ (s : LayerSet). is_within s copper ≡ true) (sym (same refl)) (within_itself copper)) refl
    by false make same = tt

shaped_on : (copper : LayerSet) (plated : Bool) (s : Sizes) (shape : Option Shape) → HoleOnIf copper (option_map (λ hole. Some hole) (option_and_then (hole_by copper plated s) shape))
shaped_on copper plated s None = tt
shaped_on copper plated s (Some shape) = tested_on copper plated s shape

hole_on : (copper : LayerSet) (at : RawPoint) (quarter : ℕ) (plated : Bool) (s : Option Sizes) → HoleOnIf copper (hole_of copper at quarter plated s)
hole_on copper at quarter plated None = refl
hole_on copper at quarter plated (Some s) = shaped_on copper plated s (rounded_rect_at at (turned_rounded_rect quarter (oval_rounded_rect s)))

-- ---- the item

item_ready : (board : PlainBoard) (label : Label) (at : RawPoint) (parts : List Part) (hole : Option Hole) (fits : local_fits label.local ≡ true)
    → fits_board at ≡ true → is_some (name_of board label.net) ≡ true → AreOn board.copper parts → AreOn board.copper (hole_parts hole)
    → IsReady board label.unit (pad_item label at parts hole fits)
item_ready board label at parts hole fits near declared on drilled = record {
  admitted = two_hold _ _ (two_hold _ _ near declared) (all_both board.copper parts (hole_parts hole ++ []) on (all_both board.copper (hole_parts hole) [] drilled refl));
  of_unit = refl;
}

tested_ready : (board : PlainBoard) (label : Label) (at : RawPoint) (parts : List Part) (hole : Option Hole) (b : Bool) (make : b ≡ true → Item) (item : Item)
    → ((h : b ≡ true) → IsReady board label.unit (make h)) → tested b make ≡ Some item → IsReady board label.unit item
tested_ready board label at parts hole true make item ready h = let same : make refl ≡ item = cc in subst (λ (i : Item). IsReady board label.unit i) same (ready refl)
tested_ready board label at parts hole false make item ready h = absurd cc

with_ready : (board : PlainBoard) (label : Label) (at : RawPoint) (parts : Option (List Part)) (hole : Option (Option Hole)) (item : Item)
    → fits_board at ≡ true → is_some (name_of board label.net) ≡ true → AreOnIf board.copper parts → HoleOnIf board.copper hole
    → pad_with label at parts hole ≡ Some item → IsReady board label.unit item
with_ready board label at None hole item near declared on drilled h = absurd cc
with_ready board label at (Some parts) None item near declared on drilled h = absurd cc
with_ready board label at (Some parts) (Some hole) item near declared on drilled h =
    tested_ready board label at parts hole (local_fits label.local) (pad_item label at parts hole) item (λ fits. item_ready board label at parts hole fits near declared on drilled) h

placed_by : (board : PlainBoard) (label : Label) (layers : LayerSet) (f : Frame) (form : Form) (item : Item) (b : Bool) → frame_fits f && primitives_fit form.primitives ≡ b
    → is_some (name_of board label.net) ≡ true → IsTrue (is_within layers board.copper)
    → cond b (pad_with label f.at (frame_copper layers f form) (frame_hole board.copper f)) None ≡ Some item → IsReady board label.unit item
placed_by board label layers f form item true fits declared on h =
    with_ready board label f.at _ _ item (front _ _ (front _ _ fits)) declared (copper_on layers board.copper f form on)
    (hole_on board.copper f.at f.quarter (is_plated f.pad_type) (hole_sizes f.pad_type f.drilling.sizes)) h
placed_by board label layers f form item false fits declared on h = absurd cc

pub placed_ready : (board : PlainBoard) (label : Label) (layers : LayerSet) (f : Frame) (form : Form) (item : Item)
    → is_some (name_of board label.net) ≡ true → IsTrue (is_within layers board.copper) → placed board.copper layers label f form ≡ Some item → IsReady board label.unit item
placed_ready board label layers f form item declared on h = placed_by board label layers f form item (frame_fits f && primitives_fit form.primitives) refl declared on h

-- ---- the whole

pub pad_by : (board : PlainBoard) (unit : ℕ) (head : Head) (tree number : Tree) (frame : Frame) (layers : LayerSet) (form : Form) (net : ℕ) (own : ℤ) (label : Label)
    → atom_of 1 tree ≡ Ok number → frame_of head.placement tree ≡ Ok frame → in_needed (layers_named board.copper) tree (element (codes "layers") tree) ≡ Ok layers
    → form_of frame.word frame.sizes tree ≡ Ok form → net_of board tree ≡ Ok net → clearance_of tree ≡ Ok own → label_of unit net own head number tree ≡ label
    → pad_of board unit head tree ≡ needed (OutOfBoard (place tree)) (placed board.copper layers label frame form)
unfolding pad_of
pad_by board unit head tree number frame layers form net own label a b c d e f g =
    rw (a, b, c, d, e, f) (ap (λ (l : Label). needed (OutOfBoard (place tree)) (placed board.copper layers l frame form)) g)
