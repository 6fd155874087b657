-- What is taken out, put back or moved is an edit of its ids.
use Rattle.std.proofs.Common.{◌≡◌, ◌⊎◌, inl, inr, refl, sym, ap, subst, ◌∙◌, ℕ, zero, suc, ℤ, Bool, true, false, not, nat_eq, List, [], ◌∷◌, Option, None, Some, filter, MatchBool, arith}
use Rattle.std.specs.List.{All, AllPairs, AllZip, Contains}
use Rattle.std.proofs.lemmas.List.Elements.{All-contains}
use Rattle.one_item.specs.declared.item.Item.{Item}
use Rattle.board_items.specs.Boards.{PlainBoard, IsSound, item_at}
use Rattle.board_items.specs.Units.{without_unit}
use Rattle.one_item.specs.ItemMoves.{IsShiftedItem}
use Rattle.board_items.specs.UnitMoves.{moves, IsMovedEntry, IsMoved}
use Rattle.board_items.specs.Back.{IsPutBack}
use Rattle.board_laws.specs.Edits.{IsEdit}
use Rattle.board_laws.proofs.Rest.{Entry, Under, rises, found_at, in_list, contains_filter, source}

none_is_some : (i : Item) → None ≡ Some i → ⊥
none_is_some i e = cc

-- lists in order that have the same entries of an id have the same item there
pub same_at : (xs ys : List Entry) → AllPairs Under xs → AllPairs Under ys → (id : ℕ) → ((i : Item) → Contains xs (id, i) → Contains ys (id, i)) → ((i : Item) → Contains ys (id, i) → Contains xs (id, i)) → item_at ys id ≡ item_at xs id
same_at xs ys rx ry id to back = by_old (item_at xs id) refl
  where
    by_new : item_at xs id ≡ None → (o : Option Item) → item_at ys id ≡ o → item_at ys id ≡ item_at xs id
    by_new e None f = f ∙ sym e
    by_new e (Some j) f = absurd (none_is_some j (sym e ∙ found_at xs (id, j) rx (back j (in_list ys id j f))))

    by_old : (o : Option Item) → item_at xs id ≡ o → item_at ys id ≡ item_at xs id
    by_old None e = by_new e (item_at ys id) refl
    by_old (Some i) e = found_at ys (id, i) ry (to i (in_list xs id i e)) ∙ sym e

pub up : (board : PlainBoard) → IsSound board → AllPairs Under board.items
up board s = rises 0 board.next_id board.items s.ids

-- ---- taken out
pub taken_out : (board : PlainBoard) (unit : ℕ) (ids : List ℕ) → IsSound board → IsSound (without_unit board unit) → ((e : Entry) → Contains board.items e → nat_eq e.1.unit unit ≡ true → Contains ids e.0) → IsEdit board (without_unit board unit) ids
taken_out board unit ids s t own = record { rises_before = s.ids; rises_now = t.ids; copper = refl; nets = refl; rest = rest }
  where
    kept : (id : ℕ) → ¬ (Contains ids id) → (i : Item) → Contains board.items (id, i) → Contains (filter (λ (e : Entry). not (nat_eq e.1.unit unit)) board.items) (id, i)
    kept id out i c = by (nat_eq i.unit unit) refl
      where
        by : (b : Bool) → nat_eq i.unit unit ≡ b → Contains (filter (λ (e : Entry). not (nat_eq e.1.unit unit)) board.items) (id, i)
        by true h = absurd (out (own (id, i) c h))
        by false h = contains_filter (λ (e : Entry). not (nat_eq e.1.unit unit)) board.items (id, i) c (ap not h)

    rest : (id : ℕ) → ¬ (Contains ids id) → item_at (without_unit board unit).items id ≡ item_at board.items id
    rest id out = same_at board.items (without_unit board unit).items (up board s) (up (without_unit board unit) t) id (kept id out) (λ i c. source (λ (e : Entry). not (nat_eq e.1.unit unit)) board.items (id, i) c)

-- ---- moved
module _ (unit : ℕ) (dx dy : ℤ) where
  still : (e f : Entry) → IsMovedEntry unit dx dy e f → moves unit e.1 ≡ false → f ≡ e
  still e f h m = ap (λ (n : ℕ). (n, f.1)) h.id ∙ ap (λ (i : Item). (e.0, i)) (subst (λ (b : Bool). MatchBool b (IsShiftedItem dx dy e.1 f.1) (f.1 ≡ e.1)) m h.item)

  first : (x y : Entry) (xs : List Entry) → x ≡ y → Contains (x ∷ xs) y
  first x y xs e = (0, omega arith, e)

  later : (x y : Entry) (xs : List Entry) → Contains xs y → Contains (x ∷ xs) y
  later x y xs c = (suc c.0, omega (arith, c.1), c.2)

  cases : (x y : Entry) (xs : List Entry) → Contains (x ∷ xs) y → (x ≡ y) ⊎ Contains xs y
  cases x y xs (zero, lt, e) = inl e
  cases x y xs (suc k, lt, e) = inr (k, omega arith, e)

  on : (es fs : List Entry) → AllZip (IsMovedEntry unit dx dy) es fs → (g : Entry) → Contains es g → moves unit g.1 ≡ false → Contains fs g
  on [] fs h g c m = absurd (omega (arith, c.1))
  on (e ∷ es) [] h g c m = absurd h
  on (e ∷ es) (f ∷ fs) h g c m = by (cases e g es c) (λ k. on es fs h.1 g k m)
    where
      by : (e ≡ g) ⊎ Contains es g → (Contains es g → Contains fs g) → Contains (f ∷ fs) g
      by (inl s) again = first f g fs (still e f h.0 (subst (λ (x : Entry). moves unit x.1 ≡ false) (sym s) m) ∙ s)
      by (inr k) again = later f g fs (again k)

  -- an entry that stands there now stood there before under its id
  was : (es fs : List Entry) → AllZip (IsMovedEntry unit dx dy) es fs → (g : Entry) → Contains fs g → (e : Entry) × Contains es e × IsMovedEntry unit dx dy e g
  was [] [] h g c = absurd (omega (arith, c.1))
  was [] (f ∷ fs) h g c = absurd h
  was (e ∷ es) [] h g c = absurd h
  was (e ∷ es) (f ∷ fs) h g c = by (cases f g fs c) (was es fs h.1 g)
    where
      by : (f ≡ g) ⊎ Contains fs g → (Contains fs g → (d : Entry) × Contains es d × IsMovedEntry unit dx dy d g) → (d : Entry) × Contains (e ∷ es) d × IsMovedEntry unit dx dy d g
      by (inl s) again = (e, first e e es refl, subst (λ (x : Entry). IsMovedEntry unit dx dy e x) s h.0)
      by (inr k) again = let d = again k in (d.0, later e d.0 es d.1, d.2)

  pub moved : (old new : PlainBoard) (ids : List ℕ) → IsSound old → IsSound new → IsMoved unit dx dy old new → ((e : Entry) → Contains old.items e → moves unit e.1 ≡ true → Contains ids e.0) → IsEdit old new ids
  moved old new ids s t h own = record {
    rises_before = s.ids;
    rises_now = t.ids;
    copper = ap (λ (b : PlainBoard). b.copper) h.others;
    nets = ap (λ (b : PlainBoard). b.nets) h.others;
    rest = λ id out. same_at old.items new.items (up old s) (up new t) id (kept id out) (was_there id out);
  }
    where
      quiet : (e : Entry) → Contains old.items e → ¬ (Contains ids e.0) → moves unit e.1 ≡ false
      quiet e c out = by (moves unit e.1) refl
        where
          by : (b : Bool) → moves unit e.1 ≡ b → b ≡ false
          by true m = absurd (out (own e c m))
          by false m = refl

      kept : (id : ℕ) → ¬ (Contains ids id) → (i : Item) → Contains old.items (id, i) → Contains new.items (id, i)
      kept id out i c = on old.items new.items h.items (id, i) c (quiet (id, i) c out)

      was_there : (id : ℕ) → ¬ (Contains ids id) → (i : Item) → Contains new.items (id, i) → Contains old.items (id, i)
      was_there id out i c =
          let d = was old.items new.items h.items (id, i) c in
          let free : ¬ (Contains ids d.0.0) = λ k. out (subst (Contains ids) (sym d.2.id) k) in
          subst (Contains old.items) (sym (still d.0 (id, i) d.2 (quiet d.0 d.1 free))) d.1

-- ---- turned round
pub turned_round : (old new : PlainBoard) (ids : List ℕ) → IsEdit old new ids → IsEdit new old ids
turned_round old new ids edit = record {
  rises_before = edit.rises_now;
  rises_now = edit.rises_before;
  copper = sym edit.copper;
  nets = sym edit.nets;
  rest = λ id out. sym (edit.rest id out);
}

pub moved_back : (unit : ℕ) (dx dy : ℤ) (old new : PlainBoard) (ids : List ℕ) → IsSound old → IsSound new → IsMoved unit dx dy old new → ((e : Entry) → Contains old.items e → moves unit e.1 ≡ true → Contains ids e.0) → IsEdit new old ids
moved_back unit dx dy old new ids s t h own = turned_round old new ids (moved unit dx dy old new ids s t h own)

-- ---- put back
pub put_back : (board new : PlainBoard) (items : List Entry) (ids : List ℕ) → IsSound board → IsSound new → IsPutBack items board new → All (λ (e : Entry). Contains ids e.0) items → IsEdit board new ids
put_back board new items ids s t h own = record {
  rises_before = s.ids;
  rises_now = t.ids;
  copper = ap (λ (b : PlainBoard). b.copper) h.others;
  nets = ap (λ (b : PlainBoard). b.nets) h.others;
  rest = λ id out. same_at board.items new.items (up board s) (up new t) id (λ i c. All-contains (Contains new.items) board.items (id, i) h.merged.kept c) (back id out);
}
  where
    back : (id : ℕ) → ¬ (Contains ids id) → (i : Item) → Contains new.items (id, i) → Contains board.items (id, i)
    back id out i c = by (All-contains (λ (e : Entry). Contains board.items e ⊎ Contains items e) new.items (id, i) h.merged.only c)
      where
        by : Contains board.items (id, i) ⊎ Contains items (id, i) → Contains board.items (id, i)
        by (inl k) = k
        by (inr k) = absurd (out (All-contains (λ (e : Entry). Contains ids e.0) items (id, i) own k))
