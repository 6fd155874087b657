-- Room on a board for items that come one after another.
use Rattle.std.specs.Prelude.{ℕ, Bool, ◌&&◌, nat_lt}
use Rattle.board_items.specs.Boards.{PlainBoard}
use Rattle.board_items.specs.ItemRefusals.{capacity_of}

-- there is room for an item more after so many: an id, a place in the list, and a unit number
abbrev pub has_capacity_after : ℕ → PlainBoard → ℕ → Bool
has_capacity_after items board unit = nat_lt items (capacity_of board) && nat_lt unit 4294967295
