-- Tracks and vias as their lists say them, before it is their turn: the unit is left open, and the board may have more nets by then.
use Rattle.std.specs.Prelude.{◌≡◌, ℕ, codes, IsTrue, is_some, true, Option, None, Some, Result, Ok}
use Rattle.std.specs.Result.{result_ok}
use Rattle.sexpr_read.specs.Tree.{Tree}
use Rattle.board_errors.specs.declared.errors.BoardError.{BoardError}
use Rattle.board_errors.specs.declared.errors.BoardError.TheVariants.{OutOfBoard}
use Rattle.copper_layers.specs.declared.set.LayerSet.{LayerSet}
use Rattle.copper_layers.specs.Layers.{single_layer, is_within}
use Rattle.one_item.specs.declared.item.Item.{Item}
use Rattle.board_items.specs.Boards.{PlainBoard, name_of}
use Rattle.list_read.specs.FirstRefusals.{◌>>=◌, needed}
use Rattle.list_read.specs.ListHeads.{place, has_word}
use Rattle.list_read.specs.NamedElements.{element}
use Rattle.part_read.specs.ElementResults.{name_in, in_needed, in_given, given_or, atom_of}
use Rattle.part_read.specs.BoardNumbers.{raw_point_of, size_at, size_of, number_in}
use Rattle.part_read.specs.NetsOf.{net_of}
use Rattle.part_read.specs.BoardLayers.{layer_of, layers_through}
use Rattle.pcb_read.specs.declared.drafts.Draft.{Draft}
use Rattle.pcb_read.specs.declared.drafts.Form.{Form}
use Rattle.pcb_read.specs.declared.drafts.Form.TheVariants.{Track, Via}
use Rattle.pcb_read.specs.declared.items.Origin.{Origin}
use Rattle.pcb_read.specs.declared.sorts.Sort.{Sort}
use Rattle.pcb_read.specs.declared.sorts.Sort.TheVariants.{Track as OfTrack, Via as OfVia}
use Rattle.pcb_read.specs.Sorts.{sort_of}
use Rattle.pcb_read.specs.Tracks.{track_along, via_at}

-- the number in (net NUMBER), whether it was declared or not
unfoldable pub number_given : Tree → Result ℕ BoardError
number_given list = do
  atom ← atom_of 1 list
  number_in atom

-- the number of the list's net, or 0
abbrev pub net_given : Tree → Result ℕ BoardError
net_given tree = given_or 0 number_given (element (codes "net") tree)

-- what the list of a track says on a board with these copper layers
unfoldable pub track_draft : LayerSet → Tree → Result Draft BoardError
track_draft copper tree = do
  start ← raw_point_of (codes "start") tree
  end ← raw_point_of (codes "end") tree
  width ← size_of (codes "width") tree
  layer ← layer_of copper tree
  net ← net_given tree
  Ok (record { form = Track (record { a = start; b = end; width = width }); name = name_in tree; net = net; layers = single_layer layer })

-- what that of a via says
unfoldable pub via_draft : LayerSet → Tree → Result Draft BoardError
via_draft copper tree = do
  at ← raw_point_of (codes "at") tree
  size ← size_of (codes "size") tree
  drill ← in_given size_at (element (codes "drill") tree)
  layers ← in_needed (layers_through copper) tree (element (codes "layers") tree)
  net ← net_given tree
  Ok (record { form = Via (record { at = at; size = size; drill = drill; micro = has_word (codes "micro") tree; blind = has_word (codes "blind") tree }); name = name_in tree; net = net; layers = layers })

-- the item of a draft, in this unit, if it lies on a board
abbrev pub origin_of : ℕ → Draft → Origin
origin_of unit draft = record { name = draft.name; unit = unit; net = draft.net; layers = draft.layers }

abbrev pub item_by : Form → Origin → Option Item
item_by (Track strip) origin = track_along strip origin
item_by (Via form) origin = via_at form origin

abbrev pub item_of : ℕ → Tree → Draft → Result Item BoardError
item_of unit tree draft = needed (OutOfBoard (place tree)) (item_by draft.form (origin_of unit draft))

-- the same where the board has the net, and else the refusal of the net
abbrev pub item_on : PlainBoard → ℕ → Tree → Draft → Result Item BoardError
item_on board unit tree draft = net_of board tree >>= λ net. item_of unit tree draft

-- the draft's net is one of the board, and its layers are layers of the board
pub record FitsBoard (board : PlainBoard) (draft : Draft) : Type 0 where
  pub declared : is_some (name_of board draft.net) ≡ true
  pub on : IsTrue (is_within draft.layers board.copper)

-- what is drafted of a list of this sort
abbrev pub draft_by : Option Sort → LayerSet → Tree → Option Draft
draft_by (Some OfTrack) copper tree = result_ok (track_draft copper tree)
draft_by (Some OfVia) copper tree = result_ok (via_draft copper tree)
draft_by sort copper tree = None

-- it is the draft of the list on a board with these copper layers, and its layers are among them
abbrev pub IsDraft : LayerSet → Tree → Draft → Type 0
IsDraft copper tree draft = (draft_by (sort_of tree) copper tree ≡ Some draft) × IsTrue (is_within draft.layers copper)
