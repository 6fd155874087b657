-- A unit that is moved gives one board.
use Rattle.std.proofs.Common.{◌≡◌, ◌∙◌, ap, sym, refl, ℕ, ℤ, Bool, true, false, List, MatchBool}
use Rattle.std.specs.List.{AllZip}
use Rattle.one_item.specs.declared.item.Item.{Item}
use Rattle.one_item.specs.ItemMoves.{IsShiftedItem}
use Rattle.one_item.proofs.OneShift.{zip_once, item_once}
use Rattle.board_items.specs.Boards.{PlainBoard}
use Rattle.board_items.specs.UnitMoves.{moves, IsMovedEntry, IsMoved}

module _ (unit : ℕ) (dx dy : ℤ) where
  entry_once : (e f g : ℕ × Item) → IsMovedEntry unit dx dy e f → IsMovedEntry unit dx dy e g → f ≡ g
  entry_once e f g h k = ap (λ (n : ℕ). (n, f.1)) (h.id ∙ sym k.id) ∙ ap (λ (i : Item). (g.0, i)) (by (moves unit e.1) h.item k.item)
    where
      by : (b : Bool) → MatchBool b (IsShiftedItem dx dy e.1 f.1) (f.1 ≡ e.1) → MatchBool b (IsShiftedItem dx dy e.1 g.1) (g.1 ≡ e.1) → f.1 ≡ g.1
      by true p q = item_once dx dy e.1 f.1 g.1 p q
      by false p q = p ∙ sym q

  entries_once : (es fs gs : List (ℕ × Item)) → AllZip (IsMovedEntry unit dx dy) es fs → AllZip (IsMovedEntry unit dx dy) es gs → fs ≡ gs
  entries_once = zip_once (IsMovedEntry unit dx dy) entry_once

  pub one_move : (old a b : PlainBoard) → IsMoved unit dx dy old a → IsMoved unit dx dy old b → a ≡ b
  one_move old a b h k = h.others ∙ (ap (λ (items : List (ℕ × Item)). record old { items = items }) (entries_once old.items a.items b.items h.items k.items) ∙ sym k.others)
