-- The items that a list of this sort says, in this unit, none or many; or its refusal. Room for them is tested last: of a zone after
-- each fill, of a footprint after all its parts.
use Rattle.std.specs.Prelude.{◌≡◌, ℕ, List, [], ◌∷◌, length, Bool, true, Result, Ok, Err}
use Rattle.sexpr_read.specs.Tree.{Tree}
use Rattle.board_errors.specs.declared.errors.BoardError.{BoardError}
use Rattle.board_errors.specs.declared.errors.BoardError.TheVariants.{Arc as NoArc, TooMany}
use Rattle.one_item.specs.declared.item.Item.{Item}
use Rattle.board_items.specs.Boards.{PlainBoard}
use Rattle.part_read.specs.declared.graphics.LayerRole.{LayerRole}
use Rattle.list_read.specs.FirstRefusals.{◌>>=◌, check}
use Rattle.list_read.specs.ListHeads.{place}
use Rattle.part_read.specs.Graphics.{layer_role_of, one_item, graphic_by, curve_by, text_by}
use Rattle.part_read.specs.Capacity.{has_capacity_after}
use Rattle.zone_read.specs.ZoneOf.{as_it_is, zone_of}
use Rattle.footprint_read.specs.FootprintOf.{FootprintSays}
use Rattle.pcb_read.specs.declared.sorts.Sort.{Sort}
use Rattle.pcb_read.specs.declared.sorts.Sort.TheVariants.{Track, Via, Arc, Graphic, Curve, Text, Zone, Footprint}
use Rattle.pcb_read.specs.Tracks.{track_of, via_of}

-- there is room for the last of these items of this unit after the others; none need any
abbrev pub has_capacity : PlainBoard → ℕ → List Item → Bool
has_capacity board unit [] = true
has_capacity board unit (item ∷ items) = has_capacity_after (length items) board unit

-- the items of a list, if there is room for them
abbrev pub in_capacity : PlainBoard → ℕ → Tree → Result (List Item) BoardError → Result (List Item) BoardError
in_capacity board unit tree answer = do
  items ← answer
  capacity ← check (TooMany (place tree)) (has_capacity board unit items)
  Ok items

-- what is said by the role of the layer on which a list lies
abbrev pub by_layer_role : PlainBoard → Tree → (LayerRole → Result (List Item) BoardError) → Result (List Item) BoardError
by_layer_role board tree given = layer_role_of board.copper tree >>= given

abbrev pub SaysItems : PlainBoard → ℕ → Tree → Sort → Result (List Item) BoardError → Type 0
SaysItems board unit tree Track answer = answer ≡ in_capacity board unit tree (one_item (track_of board unit tree))
SaysItems board unit tree Via answer = answer ≡ in_capacity board unit tree (one_item (via_of board unit tree))
SaysItems board unit tree Arc answer = answer ≡ Err (NoArc (place tree))
SaysItems board unit tree (Graphic kind) answer = answer ≡ in_capacity board unit tree (by_layer_role board tree (graphic_by board unit as_it_is kind tree))
SaysItems board unit tree Curve answer = answer ≡ by_layer_role board tree (curve_by tree)
SaysItems board unit tree (Text about) answer = answer ≡ in_capacity board unit tree (by_layer_role board tree (text_by unit about tree))
SaysItems board unit tree Zone answer = answer ≡ zone_of board unit tree
SaysItems board unit tree Footprint answer = FootprintSays board unit tree answer
