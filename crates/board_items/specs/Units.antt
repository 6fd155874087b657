-- Units: the items that came from one list of the board file.
use Rattle.std.specs.Prelude.{ℕ, Bool, false, ◌&&◌, not, nat_eq, List, [], ◌∷◌, Option, Some, None as Nothing, option_map, find, filter, bytes_eq, if◌then◌else◌}
use Rattle.std.specs.List.{list_any}
use Rattle.std.specs.Option.{option_map_or}
use Rattle.board_items.specs.declared.found.Found.{Found}
use Rattle.board_items.specs.declared.found.Found.TheVariants.{None, Shared, Inside, Unit}
use Rattle.one_item.specs.declared.item.Item.{Item}
use Rattle.one_item.specs.ItemKinds.{is_body}
use Rattle.board_items.specs.Boards.{PlainBoard, item_at}

-- the board without the items of the unit; what is left keeps its ids, and none is given again
abbrev pub without_unit : PlainBoard → ℕ → PlainBoard
without_unit board unit = record board { items = filter (λ entry. not (nat_eq entry.1.unit unit)) board.items }

-- the id is that of an item of the unit
abbrev pub is_of_unit : List (ℕ × Item) → ℕ → ℕ → Bool
is_of_unit items unit id = option_map_or (λ item. nat_eq item.unit unit) (item_at items id) false

-- ---- names
-- the unit of the first item of the name, if there is one
abbrev pub first_named : List ℕ → List (ℕ × Item) → Option ℕ
first_named name items = option_map (λ entry. entry.1.unit) (find (λ entry. bytes_eq entry.1.name name) items)

-- another unit holds an item of the name too
abbrev pub is_shared : ℕ → List ℕ → List (ℕ × Item) → Bool
is_shared unit name items = list_any (λ entry. bytes_eq entry.1.name name && not (nat_eq entry.1.unit unit)) items

-- one of these is of another unit
abbrev pub has_other_unit : ℕ → List (ℕ × Item) → Bool
has_other_unit unit items = list_any (λ entry. not (nat_eq entry.1.unit unit)) items

-- one of these is a body with another name
abbrev pub has_body_named_otherwise : List ℕ → List (ℕ × Item) → Bool
has_body_named_otherwise name items = list_any (λ entry. is_body entry.1.what && not (bytes_eq entry.1.name name)) items

-- the unit is a footprint that has another name itself
abbrev pub is_footprint_named_otherwise : ℕ → List ℕ → List (ℕ × Item) → Bool
is_footprint_named_otherwise unit name items =
    list_any (λ entry. nat_eq entry.1.unit unit && is_body entry.1.what && not (bytes_eq entry.1.name name)) items

abbrev pub found_by : Option ℕ → List ℕ → List (ℕ × Item) → Found
found_by Nothing name items = None
found_by (Some unit) name items =
    if is_shared unit name items then Shared
    else if is_footprint_named_otherwise unit name items then Inside
    else Unit unit

-- what the name stands for: no unit, several units, a part of one footprint of another name, or one unit. The empty name
-- stands for nothing
abbrev pub found_of : List ℕ → List (ℕ × Item) → Found
found_of [] items = None
found_of (byte ∷ bytes) items = found_by (first_named (byte ∷ bytes) items) (byte ∷ bytes) items
