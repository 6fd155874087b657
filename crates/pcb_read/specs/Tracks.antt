-- Tracks and vias: the item that a list of the board gives, in this unit.
use Rattle.std.specs.Prelude.{◌≡◌, ℕ, ℤ, pos, [], ◌∷◌, codes, Bool, true, ◌&&◌, refl, Option, None, Some, unwrap_or, Result}
use Rattle.std.proofs.lemmas.Option.{none-some}
use Rattle.sexpr_read.specs.Tree.{Tree}
use Rattle.int_algebra.proofs.Tested.{front, back}
use Rattle.plain_types.specs.Lengths.{IsLength, IsLengthIfSome}
use Rattle.board_errors.specs.declared.errors.BoardError.{BoardError}
use Rattle.board_errors.specs.declared.errors.BoardError.TheVariants.{OutOfBoard}
use Rattle.copper_layers.specs.declared.set.LayerSet.{LayerSet}
use Rattle.one_item.specs.declared.item.Item.{Item}
use Rattle.one_item.specs.declared.item.Hole.{Hole}
use Rattle.one_item.specs.declared.item.What.TheVariants.{Track, Via}
use Rattle.copper_layers.specs.Layers.{single_layer}
use Rattle.board_items.specs.Boards.{PlainBoard}
use Rattle.one_item.proofs.MeasureLemmas.{track_lengths, via_lengths}
use Rattle.part_read.specs.declared.on_board.Strip.{Strip}
use Rattle.pcb_read.specs.declared.items.Origin.{Origin}
use Rattle.pcb_read.specs.declared.items.ViaForm.{ViaForm}
use Rattle.list_read.specs.FirstRefusals.{◌>>=◌, needed}
use Rattle.list_read.specs.ListHeads.{place, has_word}
use Rattle.list_read.specs.NamedElements.{element}
use Rattle.part_read.specs.ElementResults.{name_in, in_needed, in_given}
use Rattle.part_read.specs.BoardNumbers.{raw_point_of, size_at, size_of}
use Rattle.part_read.specs.BoardLayers.{layer_of, layers_through}
use Rattle.part_read.specs.NetsOf.{net_of}
use Rattle.plain_types.proofs.LengthTests.{length_in_range}
use Rattle.part_read.specs.OnBoard.{tested, is_strip, strip_shape}

-- a length that is missing has no range
abbrev pub no_length : IsLengthIfSome None
no_length n e = absurd (none-some n e)

-- the track along a strip, if that lies on a board
abbrev pub track_along : Strip → Origin → Option Item
track_along strip origin = tested (is_strip strip) (λ fits. record {
  name = origin.name;
  unit = origin.unit;
  net = origin.net;
  x = strip.a.x;
  y = strip.a.y;
  copper = record { layers = origin.layers; shape = strip_shape strip fits } ∷ [];
  hole = None;
  local = None;
  what = Track strip.width;
  local_in_range = no_length;
  what_in_range = track_lengths strip.width (length_in_range strip.width (back _ _ fits));
})

-- (segment (start X Y) (end X Y) (width W) (layer NAME) (net N) (tstamp NAME)): a line with half the width around it
unfoldable pub track_of : PlainBoard → ℕ → Tree → Result Item BoardError
track_of board unit tree = do
  start ← raw_point_of (codes "start") tree
  end ← raw_point_of (codes "end") tree
  width ← size_of (codes "width") tree
  layer ← layer_of board.copper tree
  net ← net_of board tree
  needed (OutOfBoard (place tree))
      (track_along (record { a = start; b = end; width = width }) (record { name = name_in tree; unit = unit; net = net; layers = single_layer layer }))

-- ---- vias

-- a disc around the position of a via
abbrev pub disc : ViaForm → ℤ → Strip
disc form size = record { a = form.at; b = form.at; width = size }

abbrev pub is_drill : ViaForm → Option ℤ → Bool
is_drill form None = true
is_drill form (Some drill) = is_strip (disc form drill)

-- the hole lies on a board, if there is one
abbrev pub is_hole : ViaForm → Bool
is_hole form = is_drill form form.drill

abbrev pub hole_by : (form : ViaForm) (layers : LayerSet) (drill : Option ℤ) → is_drill form drill ≡ true → Option Hole
hole_by form layers None fits = None
hole_by form layers (Some drill) fits =
    Some (record { shape = strip_shape (disc form drill) fits; layers = layers; plated = true; least = drill; least_in_range = length_in_range drill (back _ _ fits) })

-- a round hole through these layers, where there is a drill
abbrev pub hole_through : (form : ViaForm) (layers : LayerSet) → is_hole form ≡ true → Option Hole
hole_through form layers fits = hole_by form layers form.drill fits

pub drill_in_range : (form : ViaForm) (drill : Option ℤ) → is_drill form drill ≡ true → IsLength (unwrap_or drill (pos 0))
drill_in_range form None fits = length_in_range (pos 0) refl
drill_in_range form (Some drill) fits = length_in_range drill (back _ _ fits)

-- the disc of the via and its hole lie on a board
abbrev pub is_via : ViaForm → Bool
is_via form = is_strip (disc form form.size) && is_hole form

-- the via, if they do
abbrev pub via_at : ViaForm → Origin → Option Item
via_at form origin = tested (is_via form) (λ fit. record {
  name = origin.name;
  unit = origin.unit;
  net = origin.net;
  x = form.at.x;
  y = form.at.y;
  copper = record { layers = origin.layers; shape = strip_shape (disc form form.size) (front _ _ fit) } ∷ [];
  hole = hole_through form origin.layers (back _ _ fit);
  local = None;
  what = Via form.size (unwrap_or form.drill (pos 0)) form.micro form.blind;
  local_in_range = no_length;
  what_in_range = via_lengths form.size (unwrap_or form.drill (pos 0)) form.micro form.blind (length_in_range form.size (back _ _ (front _ _ fit))) (drill_in_range form form.drill (back _ _ fit));
})

-- (via blind micro (at X Y) (size S) (drill D) (layers NAME NAME) (net N) (tstamp NAME)), the words if it is so: a disc
unfoldable pub via_of : PlainBoard → ℕ → Tree → Result Item BoardError
via_of board unit tree = do
  at ← raw_point_of (codes "at") tree
  size ← size_of (codes "size") tree
  drill ← in_given size_at (element (codes "drill") tree)
  layers ← in_needed (layers_through board.copper) tree (element (codes "layers") tree)
  net ← net_of board tree
  needed (OutOfBoard (place tree))
      (via_at (record { at = at; size = size; drill = drill; micro = has_word (codes "micro") tree; blind = has_word (codes "blind") tree })
      (record { name = name_in tree; unit = unit; net = net; layers = layers }))
