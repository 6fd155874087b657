-- The head of a footprint: (footprint .. (layer F.Cu) (at X Y ANGLE) (fp_text reference "R1" ..) (clearance C) ..), its elements in
-- this order.
use Rattle.std.specs.Prelude.{ℕ, ◌==◌, ◌&&◌, Bool, true, false, List, [], codes, Option, None, Some, slice_get, find, Result, Ok, Err, if◌then◌else◌}
use Rattle.sexpr_read.specs.Tree.{Tree, parts}
use Rattle.board_errors.specs.declared.errors.BoardError.{BoardError}
use Rattle.board_errors.specs.declared.errors.BoardError.TheVariants.{Missing, Turned, UnknownLayer}
use Rattle.copper_layers.specs.declared.set.LayerSet.{LayerSet}
use Rattle.list_read.specs.FirstRefusals.{◌>>=◌, needed}
use Rattle.list_read.specs.ListHeads.{place, text_of, is_text, has_head}
use Rattle.list_read.specs.NamedElements.{element}
use Rattle.part_read.specs.ElementResults.{atom_of}
use Rattle.part_read.specs.BoardLayers.{copper_in}
use Rattle.pad_read.specs.declared.head.Head.{Head}
use Rattle.pad_read.specs.LocalPlacements.{local_placement_of, quarters_of, clearance_of}

-- ---- the side

-- the side that this layer is: the front or the back; an inner layer is refused
abbrev pub side_by : Tree → ℕ → Result Bool BoardError
side_by atom layer = if layer == 0 then Ok false else if layer == 31 then Ok true else Err (UnknownLayer (place atom))

-- whether (layer NAME) says that it is on the back: F.Cu or B.Cu
unfoldable pub side_of : LayerSet → Tree → Result Bool BoardError
side_of copper tree = do
  list ← needed (Missing (place tree)) (element (codes "layer") tree)
  atom ← atom_of 1 list
  layer ← copper_in copper atom
  side_by atom layer

-- ---- the reference

-- there is an atom, and it is this word
abbrev pub is_word : List ℕ → Option Tree → Bool
is_word word None = false
is_word word (Some t) = is_text t word

-- the list is (HEAD WORD ..)
abbrev pub says : List ℕ → List ℕ → Tree → Bool
says head word tree = has_head head tree && is_word word (slice_get (parts tree) 1)

-- the text at place 2 of a list
abbrev pub second_text : Tree → Result (List ℕ) BoardError
second_text tree = atom_of 2 tree >>= λ atom. Ok (text_of atom)

-- the reference in this text of the footprint, else in this property, or the empty one
abbrev pub reference_by : Option Tree → Option Tree → Result (List ℕ) BoardError
reference_by (Some text) property = second_text text
reference_by None (Some property) = second_text property
reference_by None None = Ok []

-- the text of the first (fp_text reference "R1" ..), else that of the first (property "Reference" "R1" ..), or the empty one
unfoldable pub reference_of : Tree → Result (List ℕ) BoardError
reference_of tree = reference_by (find (says (codes "fp_text") (codes "reference")) (parts tree)) (find (says (codes "property") (codes "Reference")) (parts tree))

-- ---- the whole head

-- the head of a footprint: its elements are looked at in this order
unfoldable pub head_of : LayerSet → Tree → Result Head BoardError
head_of copper tree = do
  on_back ← side_of copper tree
  local_placement ← local_placement_of tree
  quarter ← needed (Turned (place tree)) (quarters_of local_placement.angle)
  reference ← reference_of tree
  clearance ← clearance_of tree
  Ok (record { on_back = on_back; placement = record { quarter = quarter; at = local_placement.at }; reference = reference; clearance = clearance })
