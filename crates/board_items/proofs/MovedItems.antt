-- An item that moves with its unit is moved, where points are of no matter.
use Rattle.std.proofs.Common.{◌≡◌, ℕ, ℤ, Bool, true, false, MatchBool}
use Rattle.one_item.specs.declared.item.Item.{Item}
use Rattle.one_item.specs.ItemParts.{parts_of, FirstHasPoints}
use Rattle.one_item.specs.ItemMoves.{IsShiftedItem}
use Rattle.board_items.specs.UnitMoves.{moves}
use Rattle.board_items.specs.ItemSlots.{IsMovedItem}

pub moved_item : (unit : ℕ) (dx dy : ℤ) (o n : Item) → IsMovedItem unit dx dy o n → MatchBool (moves unit o) (IsShiftedItem dx dy o n) (n ≡ o)
moved_item unit dx dy o n h = by (moves unit o) h
  where
    by : (b : Bool) → MatchBool b (IsShiftedItem dx dy o n × FirstHasPoints (parts_of o)) (n ≡ o) → MatchBool b (IsShiftedItem dx dy o n) (n ≡ o)
    by true k = k.0
    by false k = k
