-- A board as plain lists. Lengths are nanometres, and the places of its items are their ids.
use Rattle.std.specs.Prelude.{◌≡◌, ℕ, ◌+◌, ◌<◌, ◌≤◌, max, Bool, true, ◌&&◌, List, [], ◌∷◌, ◌++◌, length, Option, None, Some, is_some, slice_get, nat_eq, map, filter, if◌then◌else◌}
use Rattle.std.specs.List.{list_all}
use Rattle.std.specs.Map.{lookup}
use Rattle.plain_types.specs.Limits.{most_items}
use Rattle.copper_layers.specs.declared.set.LayerSet.{LayerSet}
use Rattle.one_item.specs.declared.item.Item.{Item}
use Rattle.copper_layers.specs.Layers.{is_within}
use Rattle.one_item.specs.ItemParts.{parts_of}
use Rattle.one_item.specs.Positions.{is_on_board}
use Rattle.one_item.specs.ItemKinds.{is_mark}

-- the layers of its copper, its nets by number in the order of the file, its items with their ids in order, and the id and
-- the unit number that are given next
pub record PlainBoard : Type 0 where
  pub copper : LayerSet
  pub nets : List (ℕ × List ℕ)
  pub items : List (ℕ × Item)
  pub next_id : ℕ
  pub next_unit : ℕ

-- net 0, which means no net, is always there; its name is empty
abbrev pub empty_board : LayerSet → PlainBoard
empty_board copper = record { copper = copper; nets = (0, []) ∷ []; items = []; next_id = 0; next_unit = 0 }

-- the name of a net, if the net is declared
abbrev pub name_of : PlainBoard → ℕ → Option (List ℕ)
name_of board net = lookup (nat_eq net) board.nets

-- a new net goes last, and one that is there keeps its first name
abbrev pub with_net : PlainBoard → ℕ → List ℕ → PlainBoard
with_net board net name =
    if is_some (name_of board net) then board else record board { nets = board.nets ++ (net, name) ∷ [] }

-- the item of an id, if there is one
abbrev pub item_at : List (ℕ × Item) → ℕ → Option Item
item_at items id = lookup (nat_eq id) items

-- the item goes last, under the next id; no id and no unit number is given again
abbrev pub with_item : PlainBoard → Item → PlainBoard
with_item board item = record board {
  items = board.items ++ (board.next_id, item) ∷ [];
  next_id = board.next_id + 1;
  next_unit = max board.next_unit (item.unit + 1);
}

-- the board has all layers of all parts
abbrev pub has_layers_of : PlainBoard → Item → Bool
has_layers_of board item = list_all (λ part. is_within part.layers board.copper) (parts_of item)

-- the item may stand on the board: its position lies there, its net is declared, and the board has all its layers
abbrev pub is_admitted : PlainBoard → Item → Bool
is_admitted board item = is_on_board item && is_some (name_of board item.net) && has_layers_of board item

-- the ids of the items that pass the test, in order
abbrev pub ids_where : (Item → Bool) → List (ℕ × Item) → List ℕ
ids_where test items = map (λ entry. entry.0) (filter (λ entry. test entry.1) items)

-- the ids of all areas and bodies
abbrev pub marks_of : List (ℕ × Item) → List ℕ
marks_of items = ids_where (λ item. is_mark item.what) items

-- the ids of all items of the net
abbrev pub ids_of_net : ℕ → List (ℕ × Item) → List ℕ
ids_of_net net items = ids_where (λ item. nat_eq item.net net) items

-- the ids rise along the list, from `low` on, and are below `high`
abbrev pub Rise : ℕ → ℕ → List (ℕ × Item) → Type 0
Rise low high [] = low ≤ high
Rise low high (entry ∷ entries) = (low ≤ entry.0) × Rise (entry.0 + 1) high entries

pub record IsRising (items : List (ℕ × Item)) : Type 0 where
  pub low : ℕ
  pub high : ℕ
  pub rise : Rise low high items

-- each unit number is below `high`
abbrev pub UnitsBelow : ℕ → List (ℕ × Item) → Type 0
UnitsBelow high [] = Unit {0}
UnitsBelow high (entry ∷ entries) = (entry.1.unit < high) × UnitsBelow high entries

-- each item may stand on the board
abbrev pub AllAdmitted : PlainBoard → List (ℕ × Item) → Type 0
AllAdmitted board [] = Unit {0}
AllAdmitted board (entry ∷ entries) = (is_admitted board entry.1 ≡ true) × AllAdmitted board entries

-- no number is declared twice: no later net has it
abbrev pub AreDistinct : List (ℕ × List ℕ) → Type 0
AreDistinct [] = Unit {0}
AreDistinct (entry ∷ entries) = (lookup (nat_eq entry.0) entries ≡ None) × AreDistinct entries

-- what holds of each board: ids rise and are below the next one, and unit numbers are below the next one; each id and each
-- unit number is below 2 ^ 32 - 1; there are at most 200,000 items; the first net is 0, and its name is empty; no net is
-- declared twice; each item may stand there
pub record IsSound (board : PlainBoard) : Type 0 where
  pub ids : Rise 0 board.next_id board.items
  pub units : UnitsBelow board.next_unit board.items
  pub last_id : board.next_id ≤ 4294967295
  pub last_unit : board.next_unit ≤ 4294967295
  pub few : length board.items ≤ most_items
  pub first_net : slice_get board.nets 0 ≡ Some (0, [])
  pub distinct : AreDistinct board.nets
  pub no_net : is_some (name_of board 0) ≡ true
  pub admitted : AllAdmitted board board.items
