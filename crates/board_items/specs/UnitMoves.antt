-- Units that are moved: all their items but notes.
use Rattle.std.specs.Prelude.{◌≡◌, ℕ, ℤ, Bool, true, ◌&&◌, not, nat_eq, List, All, MatchBool, if◌then◌else◌}
use Rattle.std.specs.List.{AllZip, list_all}
use Rattle.one_item.specs.declared.item.Item.{Item}
use Rattle.one_item.specs.ItemParts.{parts_of, FirstHasPoints}
use Rattle.one_item.specs.ItemKinds.{is_note}
use Rattle.one_item.specs.ItemMoves.{IsShiftedItem, item_stays}
use Rattle.board_items.specs.Boards.{PlainBoard}

-- all items of the unit but notes move
abbrev pub moves : ℕ → Item → Bool
moves unit item = nat_eq item.unit unit && not (is_note item.what)

-- each item that moves stays on the board
abbrev pub unit_stays : ℕ → ℤ → ℤ → List (ℕ × Item) → Bool
unit_stays unit dx dy items = list_all (λ entry. if moves unit entry.1 then item_stays dx dy entry.1 else true) items

-- the entry keeps its id, and its item is moved if it moves
pub record IsMovedEntry (unit : ℕ) (dx dy : ℤ) (old new : ℕ × Item) : Type 0 where
  pub id : new.0 ≡ old.0
  pub item : MatchBool (moves unit old.1) (IsShiftedItem dx dy old.1 new.1) (new.1 ≡ old.1)

-- places are kept, and all but the items is as it was
pub record IsMoved (unit : ℕ) (dx dy : ℤ) (old new : PlainBoard) : Type 0 where
  pub items : AllZip (IsMovedEntry unit dx dy) old.items new.items
  pub others : new ≡ record old { items = new.items }

-- the first part of each item that moves, if it has one, has points
abbrev pub HaveFirstPoints : ℕ → List (ℕ × Item) → Type 0
HaveFirstPoints unit items = All (λ entry. moves unit entry.1 ≡ true → FirstHasPoints (parts_of entry.1)) items
