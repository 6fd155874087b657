-- Copper layers by their names: the list of layers of a board, and the layers of an item. Of a name there are three cases: it is
-- passed over, it stands for layers of the board, or it is refused.
use Rattle.std.specs.Prelude.{ℕ, List, [], ◌∷◌, ◌++◌, codes, Bool, ◌||◌, Option, None, Some, Result, Ok, Err, if◌then◌else◌}
use Rattle.std.specs.List.{position_from}
use Rattle.sexpr_read.specs.Tree.{Tree, parts, is_list}
use Rattle.sexpr_read.specs.TextEndings.{ends_in}
use Rattle.copper_layers.specs.declared.set.LayerSet.{LayerSet}
use Rattle.board_errors.specs.declared.errors.BoardError.{BoardError}
use Rattle.board_errors.specs.declared.errors.BoardError.TheVariants.{UnknownLayer}
use Rattle.copper_layers.specs.Layers.{has_layer, layer_names, single_layer, layers_between}
use Rattle.list_read.specs.FirstRefusals.{◌>>=◌}
use Rattle.list_read.specs.ListHeads.{place, text_of, is_text}
use Rattle.list_read.specs.NamedElements.{element}
use Rattle.part_read.specs.ElementResults.{atom_of, in_needed}
use Rattle.part_read.specs.LayersWhere.{layers_of_any}

-- the layer that an atom names, if it is one of copper: the place of its name
unfoldable pub layer_number : Tree → Option ℕ
layer_number atom = position_from (is_text atom) 0 layer_names

-- the sets that the parts of a list give, in order; the first refusal counts
abbrev pub each_set : (Tree → Result (List LayerSet) BoardError) → List Tree → Result (List LayerSet) BoardError
each_set sets [] = Ok []
each_set sets (t ∷ ts) = do
  first ← sets t
  others ← each_set sets ts
  Ok (first ++ others)

-- ---- the list of layers of a board

-- the set of a layer, if there is one
abbrev pub layer_set : Option ℕ → List LayerSet
layer_set None = []
layer_set (Some layer) = single_layer layer ∷ []

-- what (NUMBER NAME ..) lists
unfoldable pub listed : Tree → Result (List LayerSet) BoardError
listed part = if is_list part then (atom_of 1 part >>= λ name. Ok (layer_set (layer_number name))) else Ok []

-- the copper layers that (layers (NUMBER NAME KIND) ..) lists: a layer is among them where some part lists it
unfoldable pub layers_listed : Tree → Result LayerSet BoardError
layers_listed list = each_set listed (parts list) >>= λ sets. Ok (layers_of_any sets)

-- ---- a layer of an item

-- its name is that of some copper layer, also of one that no board has
abbrev pub ends_in_cu : Tree → Bool
ends_in_cu atom = ends_in (codes ".Cu") (text_of atom)

-- a layer with this number must be one of the board, and a name without a number must be none of a copper layer
abbrev pub layer_by : LayerSet → Tree → Option ℕ → Result (Option ℕ) BoardError
layer_by copper atom None = if ends_in_cu atom then Err (UnknownLayer (place atom)) else Ok None
layer_by copper atom (Some layer) = if has_layer copper layer then Ok (Some layer) else Err (UnknownLayer (place atom))

-- the copper layer of the board that an atom names; None where it names no copper layer, and is passed over
unfoldable pub layer_in : LayerSet → Tree → Result (Option ℕ) BoardError
layer_in copper atom = layer_by copper atom (layer_number atom)

-- the layer that was found; where there is none, the name is refused
abbrev pub copper_by : Tree → Option ℕ → Result ℕ BoardError
copper_by atom None = Err (UnknownLayer (place atom))
copper_by atom (Some layer) = Ok layer

-- the copper layer of the board that an atom names, where one must stand
unfoldable pub copper_in : LayerSet → Tree → Result ℕ BoardError
copper_in copper atom = layer_in copper atom >>= copper_by atom

-- the one layer of (layer NAME)
unfoldable pub layer_at : LayerSet → Tree → Result ℕ BoardError
layer_at copper list = atom_of 1 list >>= copper_in copper

-- the one layer in the element `layer`, which must be there
abbrev pub layer_of : LayerSet → Tree → Result ℕ BoardError
layer_of copper tree = in_needed (layer_at copper) tree (element (codes "layer") tree)

-- the layers of the board from the one to the other of (layers NAME NAME), whichever is above
unfoldable pub layers_through : LayerSet → Tree → Result LayerSet BoardError
layers_through copper list = do
  first ← atom_of 1 list
  one ← copper_in copper first
  second ← atom_of 2 list
  other ← copper_in copper second
  Ok (layers_between copper one other)

-- ---- layers of an item, wildcards among them

-- the wildcard of all copper layers
abbrev pub is_all_copper : Tree → Bool
is_all_copper atom = is_text atom (codes "*.Cu")

-- the wildcard of the two outer ones
abbrev pub is_outer : Tree → Bool
is_outer atom = is_text atom (codes "F&B.Cu")

-- a layer, if the board has it
abbrev pub layer_if : LayerSet → ℕ → List LayerSet
layer_if copper layer = if has_layer copper layer then single_layer layer ∷ [] else []

-- F.Cu and B.Cu, those of them that the board has
abbrev pub outer_of : LayerSet → List LayerSet
outer_of copper = layer_if copper 0 ++ layer_if copper 31

-- the layers of the board that an atom names; a list is passed over
unfoldable pub named : LayerSet → Tree → Result (List LayerSet) BoardError
named copper part =
    if is_list part then Ok []
    else if is_all_copper part then Ok (copper ∷ [])
    else if is_outer part then Ok (outer_of copper)
    else (layer_in copper part >>= λ layer. Ok (layer_set layer))

-- the layers of the board that the atoms of (layers NAME ..) name: a layer is among them where some atom names it
unfoldable pub layers_named : LayerSet → Tree → Result LayerSet BoardError
layers_named copper list = each_set (named copper) (parts list) >>= λ sets. Ok (layers_of_any sets)

-- the copper layer that the layer of a graphic names; wildcards are passed over there
unfoldable pub drawn_on : LayerSet → Tree → Result (Option ℕ) BoardError
drawn_on copper atom = if is_all_copper atom || is_outer atom then Ok None else layer_in copper atom
