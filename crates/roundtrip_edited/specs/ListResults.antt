-- What a list gives on one board, and a list that is equal up to translation on another.
use Rattle.std.specs.Prelude.{◌≡◌, ℕ, true, List, Ok}
use Rattle.std.specs.List.{AllZip}
use Rattle.sexpr_read.specs.Tree.{Tree}
use Rattle.one_item.specs.declared.item.Item.{Item}
use Rattle.board_items.specs.Boards.{PlainBoard}
use Rattle.pcb_read.specs.declared.sorts.Sort.{Sort}
use Rattle.pcb_read.specs.ItemsOf.{SaysItems, has_capacity}
use Rattle.roundtrip_lists.specs.Translated.{Shift}
use Rattle.roundtrip_lists.specs.Carried.{of_unit, Becomes}

-- where the one list gives items, the other one gives what they have become, in a unit of its own
abbrev pub GivesCarried : Shift → Sort → (board other : PlainBoard) (unit own : ℕ) → Tree → Tree → Type 0
GivesCarried d sort board other unit own t u =
    (items now : List Item) → AllZip (Becomes d) items now → SaysItems board unit t sort (Ok items) → SaysItems other own u sort (Ok (of_unit own now))

-- the same where the other board has room for it
abbrev pub GivesInCapacity : Shift → Sort → (board other : PlainBoard) (unit own : ℕ) → Tree → Tree → Type 0
GivesInCapacity d sort board other unit own t u =
    (items now : List Item) → AllZip (Becomes d) items now → SaysItems board unit t sort (Ok items) → has_capacity other own (of_unit own now) ≡ true → SaysItems other own u sort (Ok (of_unit own now))
