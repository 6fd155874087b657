-- A unit that was taken out and is put back.
use Rattle.std.proofs.Common.{◌≡◌, ◌⊎◌, inl, inr, refl, ap, ◌∙◌, ℕ, Bool, true, false, not, nat_eq, List, filter}
use Rattle.std.specs.List.{Contains}
use Rattle.std.proofs.lemmas.List.Elements.{All-contains}
use Rattle.one_item.specs.declared.item.Item.{Item}
use Rattle.board_items.specs.Back.{IsPutBack, entries_of}
use Rattle.board_items.specs.Boards.{PlainBoard, Rise}
use Rattle.board_items.specs.Units.{without_unit}
use Rattle.board_laws.proofs.Rest.{same_from_elements, rises, contains_filter, source}

pub taken_and_back : (board new : PlainBoard) (unit : ℕ) → Rise 0 board.next_id board.items → IsPutBack (entries_of unit board.items) (without_unit board unit) new → new ≡ board
taken_and_back board new unit rise back = back.others ∙ ap (λ (items : List (ℕ × Item)). record board { items = items }) same
  where
    own : ℕ × Item → Bool
    own e = nat_eq e.1.unit unit

    left : ℕ × Item → Bool
    left e = not (nat_eq e.1.unit unit)

    to : (e : ℕ × Item) → Contains new.items e → Contains board.items e
    to e c = by (All-contains (λ x. Contains (filter left board.items) x ⊎ Contains (filter own board.items) x) new.items e back.merged.only c)
      where
        by : Contains (filter left board.items) e ⊎ Contains (filter own board.items) e → Contains board.items e
        by (inl k) = source left board.items e k
        by (inr k) = source own board.items e k

    from : (e : ℕ × Item) → Contains board.items e → Contains new.items e
    from e c = by (nat_eq e.1.unit unit) refl
      where
        by : (b : Bool) → nat_eq e.1.unit unit ≡ b → Contains new.items e
        by true t = All-contains (Contains new.items) (filter own board.items) e back.merged.back (contains_filter own board.items e c t)
        by false t = All-contains (Contains new.items) (filter left board.items) e back.merged.kept (contains_filter left board.items e c (ap not t))

    same : new.items ≡ board.items
    same = same_from_elements new.items board.items back.merged.rises (rises 0 board.next_id board.items rise) to from
