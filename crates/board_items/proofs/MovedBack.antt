-- A move is undone by the move that is opposite.
use Rattle.std.proofs.Common.{◌≡◌, ◌∙◌, ap, sym, subst, refl, ℕ, ℤ, pos, neg_ℤ, ◌*ℤ◌, Bool, true, false, not, ◌&&◌, nat_eq, List, [], ◌∷◌, MatchBool}
use Rattle.std.specs.List.{AllZip}
use Rattle.one_item.specs.declared.item.Item.{Item}
use Rattle.one_item.specs.ItemKinds.{is_note}
use Rattle.one_item.specs.ItemMoves.{IsShiftedItem}
use Rattle.one_item.proofs.ShiftedBack.{item_back}
use Rattle.one_item.proofs.ShiftedKinds.{note_same}
use Rattle.board_items.specs.Boards.{PlainBoard}
use Rattle.board_items.specs.UnitMoves.{moves, IsMovedEntry, IsMoved}

module _ (unit : ℕ) (dx dy : ℤ) where
  entry_back : (e f : ℕ × Item) → IsMovedEntry unit dx dy e f → IsMovedEntry unit (neg_ℤ dx) (neg_ℤ dy) f e
  entry_back e f h = record { id = sym h.id; item = by (moves unit e.1) refl h.item }
    where
      by : (b : Bool) → moves unit e.1 ≡ b → MatchBool b (IsShiftedItem dx dy e.1 f.1) (f.1 ≡ e.1) → MatchBool (moves unit f.1) (IsShiftedItem (neg_ℤ dx) (neg_ℤ dy) f.1 e.1) (e.1 ≡ f.1)
      by true t s =
          let still : moves unit f.1 ≡ true = ap (λ (n : ℕ). nat_eq n unit && not (is_note f.1.what)) s.unit ∙ (ap (λ (b : Bool). nat_eq e.1.unit unit && not b) (note_same (pos 2 *ℤ dx) (pos 2 *ℤ dy) e.1.what f.1.what s.what) ∙ t) in
          subst (λ (b : Bool). MatchBool b (IsShiftedItem (neg_ℤ dx) (neg_ℤ dy) f.1 e.1) (e.1 ≡ f.1)) (sym still) (item_back dx dy e.1 f.1 s)
      by false t s =
          let still : moves unit f.1 ≡ false = ap (moves unit) s ∙ t in
          subst (λ (b : Bool). MatchBool b (IsShiftedItem (neg_ℤ dx) (neg_ℤ dy) f.1 e.1) (e.1 ≡ f.1)) (sym still) (sym s)

  entries_back : (es fs : List (ℕ × Item)) → AllZip (IsMovedEntry unit dx dy) es fs → AllZip (IsMovedEntry unit (neg_ℤ dx) (neg_ℤ dy)) fs es
  entries_back [] [] h = h
  entries_back [] (f ∷ fs) h = absurd h
  entries_back (e ∷ es) [] h = absurd h
  entries_back (e ∷ es) (f ∷ fs) h = (entry_back e f h.0, entries_back es fs h.1)

  pub moved_back : (old new : PlainBoard) → IsMoved unit dx dy old new → IsMoved unit (neg_ℤ dx) (neg_ℤ dy) new old
  moved_back old new h = record { items = entries_back old.items new.items h.items; others = ap (λ (b : PlainBoard). record b { items = old.items }) (sym h.others) }
