-- The items of a unit that move.
use Rattle.std.proofs.Common.{◌≡◌, ◌∙◌, ap, refl, ℕ, Bool, true, false, cond, not, ◌&&◌, nat_eq, List, [], ◌∷◌, filter, Vec, Result, Ok, Err, IfOk}
use Rattle.std.specs.declared.alloc.Global.{Global}
use Rattle.one_item.specs.declared.item.Item.{Item}
use Rattle.board_items.specs.Back.{entries_of}
use Rattle.one_item.specs.ItemKinds.{is_note}
use Rattle.board_items.specs.UnitMoves.{moves}
use Rattle.board_edits.specs.Making.{ids_of}

abbrev Entry : Type 0
Entry = ℕ × Item

moving : (unit : ℕ) (items : List Entry) → filter (λ (e : Entry). not (is_note e.1.what)) (entries_of unit items) ≡ filter (λ (e : Entry). moves unit e.1) items
moving unit [] = refl
moving unit (e ∷ es) = by (nat_eq e.1.unit unit) (moving unit es)
  where
    by : (own : Bool) → filter (λ (x : Entry). not (is_note x.1.what)) (entries_of unit es) ≡ filter (λ (x : Entry). moves unit x.1) es
        → filter (λ (x : Entry). not (is_note x.1.what)) (cond own (e ∷ entries_of unit es) (entries_of unit es)) ≡ cond (own && not (is_note e.1.what)) (e ∷ filter (λ (x : Entry). moves unit x.1) es) (filter (λ (x : Entry). moves unit x.1) es)
    by true h = ap (λ (xs : List Entry). cond (not (is_note e.1.what)) (e ∷ xs) xs) h
    by false h = h

pub moving_ids : {E : Type 0} (unit : ℕ) (items own : List Entry) (r : Result (Vec ℕ Global) E) → own ≡ entries_of unit items → IfOk r (λ ids. ids.items ≡ ids_of (filter (λ (e : Entry). not (is_note e.1.what)) own)) → IfOk r (λ ids. ids.items ≡ ids_of (filter (λ (e : Entry). moves unit e.1) items))
moving_ids unit items own (Ok ids) o h = h ∙ (ap (λ (xs : List Entry). ids_of (filter (λ (e : Entry). not (is_note e.1.what)) xs)) o ∙ ap ids_of (moving unit items))
moving_ids unit items own (Err e) o h = h
