-- How the parts of an edited board follow those of the board that it was.
use Rattle.std.specs.Prelude.{◌≡◌, ℕ, ◌+◌, List, [], ◌∷◌, length, None, Some, Ok}
use Rattle.sexpr_read.specs.Tree.{Tree}
use Rattle.one_item.specs.declared.item.Item.{Item}
use Rattle.board_items.specs.Boards.{PlainBoard}
use Rattle.roundtrip_lists.specs.Translated.{TranslatedTrees}
use Rattle.roundtrip_lists.specs.Carried.{of_unit}
use Rattle.pcb_read.specs.declared.sorts.Sort.{Sort}
use Rattle.pcb_read.specs.Sorts.{sort_of}
use Rattle.pcb_read.specs.ItemsOf.{SaysItems}
use Rattle.pcb_read.specs.BoardOf.{Reading, with_items, SaysPart}

-- both have the same copper layers and the same nets
pub record SameLayersAndNets (a b : PlainBoard) : Type 0 where
  pub copper : b.copper ≡ a.copper
  pub nets : b.nets ≡ a.nets

-- both have the same items, and the same numbers come next
pub record SameItems (a b : PlainBoard) : Type 0 where
  pub items : b.items ≡ a.items
  pub ids : b.next_id ≡ a.next_id
  pub units : b.next_unit ≡ a.next_unit

-- the lists of items go last, each a unit of its own
abbrev pub with_units : PlainBoard → List (List Item) → PlainBoard
with_units board [] = board
with_units board (items ∷ others) = with_units (with_items board (of_unit board.next_unit items)) others

abbrev pub total : List (List Item) → ℕ
total [] = 0
total (items ∷ others) = length items + total others

-- what is known of the items of lists of a board that is equal up to translation: `Carries sort t u items cs` says that the list t of this
-- sort gives the items, and the list u those that they have become
module _ (Carries : Sort → Tree → Tree → List Item → List Item → Type 0) where
  -- the parts of the one board, from what was read before to what is read then, and the parts of the other, with the items of its units
  pub data Goes : Reading → List Tree → Reading → List Tree → List (List Item) → Type 0 where
    ends : {a : Reading} → Goes a [] a [] []
    -- a part that gives no unit stays
    stays : {a next z : Reading} {t u : Tree} {ts us : List Tree} {units : List (List Item)} → sort_of t ≡ None → TranslatedTrees None t u → SaysPart a t (Ok next)
        → Goes next ts z us units → Goes a (t ∷ ts) z (u ∷ us) units
    -- a unit is left out
    leaves : {a next z : Reading} {t : Tree} {ts us : List Tree} {units : List (List Item)} (sort : Sort) → sort_of t ≡ Some sort → SaysPart a t (Ok next)
        → Goes next ts z us units → Goes a (t ∷ ts) z us units
    -- a unit stays, moved or not; without items too
    keeps : {a next z : Reading} {t u : Tree} {ts us : List Tree} {items now : List Item} {units : List (List Item)} (sort : Sort) → sort_of t ≡ Some sort → sort_of u ≡ Some sort
        → SaysItems a.board a.board.next_unit t sort (Ok items) → Carries sort t u items now → next ≡ record a { board = with_items a.board items }
        → Goes next ts z us units → Goes a (t ∷ ts) z (u ∷ us) (now ∷ units)
