-- Notes of a board, and the bodies of footprints that they speak of.
use Rattle.std.specs.Prelude.{ℕ, Bool, ◌&&◌, nat_eq, nat_lt, List, Option, None, Some, option_map, filter, if◌then◌else◌}
use Rattle.std.specs.List.{last_or}
use Rattle.one_item.specs.declared.item.Item.{Item}
use Rattle.board_items.specs.Boards.{PlainBoard, ids_where, item_at}
use Rattle.one_item.specs.ItemKinds.{is_note, is_body}

-- the ids of all notes
abbrev pub notes_of : List (ℕ × Item) → List ℕ
notes_of items = ids_where (λ item. is_note item.what) items

-- the item is a body of the unit
abbrev pub is_body_of : ℕ → Item → Bool
is_body_of unit item = nat_eq item.unit unit && is_body item.what

-- the last body of the unit before the id
abbrev pub body_before : ℕ → ℕ → List (ℕ × Item) → Option Item
body_before unit id items = option_map (λ entry. entry.1) (last_or None (filter (λ entry. nat_lt entry.0 id && is_body_of unit entry.1) items))

abbrev pub body_for : Option Item → ℕ → List (ℕ × Item) → Option Item
body_for None id items = None
body_for (Some item) id items = body_before item.unit id items

-- the last body of its unit before the item of the id, if there are such
abbrev pub body_of : PlainBoard → ℕ → Option Item
body_of board id = body_for (item_at board.items id) id board.items

-- ---- slots
-- the item in the slot if it is a body of the unit
abbrev pub only_body : ℕ → Option Item → Option Item
only_body unit None = None
only_body unit (Some item) = if is_body_of unit item then Some item else None
