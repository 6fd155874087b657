-- What a footprint's list gives on one board, and a list that is equal up to translation on another.
use Rattle.std.specs.Prelude.{◌<◌, ◌≤◌, ℕ, List, length, Ok}
use Rattle.std.specs.List.{AllZip}
use Rattle.sexpr_read.specs.Tree.{Tree}
use Rattle.one_item.specs.declared.item.Item.{Item}
use Rattle.board_items.specs.Boards.{PlainBoard}
use Rattle.board_items.specs.ItemRefusals.{capacity_of}
use Rattle.footprint_read.specs.FootprintOf.{FootprintSays}
use Rattle.roundtrip_lists.specs.Translated.{Shift}
use Rattle.roundtrip_lists.specs.Carried.{of_unit, Becomes}

-- where the one list gives items, the other one gives what they have become, in a unit of its own, if the other board has room
abbrev pub FootprintCarried : Shift → (board other : PlainBoard) (unit own : ℕ) → Tree → Tree → Type 0
FootprintCarried d board other unit own t u =
    (items now : List Item) → AllZip (Becomes d) items now → FootprintSays board unit t (Ok items) → length now ≤ capacity_of other → own < 4294967295 → FootprintSays other own u (Ok (of_unit own now))
