-- A move by nothing changes nothing.
use Rattle.std.proofs.Common.{◌≡◌, refl, ℕ, pos, Bool, true, false, List, [], ◌∷◌, MatchBool}
use Rattle.std.specs.List.{AllZip}
use Rattle.one_item.specs.declared.item.Item.{Item}
use Rattle.one_item.specs.ItemMoves.{IsShiftedItem}
use Rattle.one_item.proofs.RestingItems.{item_rests}
use Rattle.board_items.specs.Boards.{PlainBoard}
use Rattle.board_items.specs.UnitMoves.{moves, IsMovedEntry, IsMoved}
use Rattle.board_items.proofs.OneMove.{one_move}

abbrev Entry : Type 0
Entry = ℕ × Item

module _ (unit : ℕ) where
  entry_rests : (e : Entry) → IsMovedEntry unit (pos 0) (pos 0) e e
  entry_rests e = record { id = refl; item = by (moves unit e.1) }
    where
      by : (b : Bool) → MatchBool b (IsShiftedItem (pos 0) (pos 0) e.1 e.1) (e.1 ≡ e.1)
      by true = item_rests e.1
      by false = refl

  entries_rest : (es : List Entry) → AllZip (IsMovedEntry unit (pos 0) (pos 0)) es es
  entries_rest [] = tt
  entries_rest (e ∷ es) = (entry_rests e, entries_rest es)

  pub moved_nowhere : (old new : PlainBoard) → IsMoved unit (pos 0) (pos 0) old new → new ≡ old
  moved_nowhere old new h = one_move unit (pos 0) (pos 0) old new old h (record { items = entries_rest old.items; others = refl })
