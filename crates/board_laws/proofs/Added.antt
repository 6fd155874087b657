-- What is added is an edit of its ids.
use Rattle.std.proofs.Common.{◌≡◌, ◌⊎◌, inl, inr, refl, sym, subst, ◌∙◌, ℕ, ◌+◌, ◌≤◌, List, [], ◌∷◌, ◌++◌, append_assoc, append-nil, arith}
use Rattle.std.specs.List.{All, Contains, fold}
use Rattle.std.proofs.lemmas.List.Elements.{All-nil, All-cons, All-weaker, All-contains, Contains-append_cases, Contains-append_left}
use Rattle.one_item.specs.declared.item.Item.{Item}
use Rattle.board_items.specs.Boards.{PlainBoard, IsSound, with_item}
use Rattle.board_laws.specs.Edits.{IsEdit}
use Rattle.board_laws.proofs.Rest.{Entry}
use Rattle.board_laws.proofs.Operations.{same_at, up}

-- the new entries stand behind the others, from the next id on
pub record IsGrown (old new : PlainBoard) : Type 0 where
  pub more : List Entry
  pub items : new.items ≡ old.items ++ more
  pub from : All (λ (e : Entry). old.next_id ≤ e.0) more
  pub next : old.next_id ≤ new.next_id
  pub copper : new.copper ≡ old.copper
  pub nets : new.nets ≡ old.nets

grown : (board : PlainBoard) (items : List Item) → IsGrown board (fold with_item board items)
grown board [] = record { more = []; items = sym (append-nil board.items); from = All-nil (λ (e : Entry). board.next_id ≤ e.0); next = omega arith; copper = refl; nets = refl }
grown board (item ∷ items) =
    let rest = grown (with_item board item) items in
    let one : Entry = (board.next_id, item) in record {
      more = one ∷ rest.more;
      items = rest.items ∙ append_assoc board.items (one ∷ []) rest.more;
      from = All-cons (λ (e : Entry). board.next_id ≤ e.0) one rest.more (omega arith) (All-weaker (λ (e : Entry). (board.next_id + 1) ≤ e.0) (λ (e : Entry). board.next_id ≤ e.0) (λ e l. omega arith) rest.more rest.from);
      next = let n = rest.next in omega arith;
      copper = rest.copper;
      nets = rest.nets;
    }

pub added : (board : PlainBoard) (items : List Item) (ids : List ℕ) → IsSound board → IsSound (fold with_item board items) → ((e : Entry) → Contains (fold with_item board items).items e → board.next_id ≤ e.0 → Contains ids e.0) → IsEdit board (fold with_item board items) ids
added board items ids s t own = record {
  rises_before = s.ids;
  rises_now = t.ids;
  copper = more.copper;
  nets = more.nets;
  rest = λ id out. same_at board.items (fold with_item board items).items (up board s) (up (fold with_item board items) t) id (kept id) (source id out);
}
  where
    more : IsGrown board (fold with_item board items)
    more = grown board items

    kept : (id : ℕ) (i : Item) → Contains board.items (id, i) → Contains (fold with_item board items).items (id, i)
    kept id i c = let g = grown board items in subst (λ (es : List Entry). Contains es (id, i)) (sym g.items) (Contains-append_left board.items g.more (id, i) c)

    source : (id : ℕ) → ¬ (Contains ids id) → (i : Item) → Contains (fold with_item board items).items (id, i) → Contains board.items (id, i)
    source id out i c = let g = grown board items in by g.more g.from (Contains-append_cases board.items g.more (id, i) (subst (λ (es : List Entry). Contains es (id, i)) g.items c))
      where
        by : (xs : List Entry) → All (λ (e : Entry). board.next_id ≤ e.0) xs → Contains board.items (id, i) ⊎ Contains xs (id, i) → Contains board.items (id, i)
        by xs from (inl k) = k
        by xs from (inr k) = absurd (out (own (id, i) c (All-contains (λ (e : Entry). board.next_id ≤ e.0) xs (id, i) from k)))
