-- When an item is refused: the first of four reasons, in this order.
use Rattle.std.specs.Prelude.{ℕ, ◌-◌, min, not, length, nat_le, Option, None, Some, Result, Ok, Err, is_some, if◌then◌else◌}
use Rattle.plain_types.specs.Limits.{most_items}
use Rattle.board_errors.specs.declared.errors.ItemError.{ItemError}
use Rattle.board_errors.specs.declared.errors.ItemError.TheVariants.{OutOfBoard, UnknownNet, UnknownLayer, TooMany, OutOfMemory}
use Rattle.one_item.specs.declared.item.Item.{Item}
use Rattle.one_item.specs.Positions.{is_on_board}
use Rattle.board_items.specs.Boards.{PlainBoard, name_of, has_layers_of}

-- how many more items a board takes: up to 200,000 items, and as long as an id below 2 ^ 32 - 1 is left
abbrev pub capacity_of : PlainBoard → ℕ
capacity_of board = min (most_items - length board.items) (4294967295 - board.next_id)

abbrev pub refusal_of : PlainBoard → Item → Option ItemError
refusal_of board item =
    if not (is_on_board item) then Some OutOfBoard
    else if not (is_some (name_of board item.net)) then Some UnknownNet
    else if not (has_layers_of board item) then Some UnknownLayer
    else if nat_le (capacity_of board) 0 then Some TooMany
    else None

-- the reason that an answer gives; running out of memory is none
abbrev pub reason_in : {T : Type 0} → Result T ItemError → Option ItemError
reason_in (Ok x) = None
reason_in (Err OutOfMemory) = None
reason_in (Err e) = Some e
