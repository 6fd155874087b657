-- The items of a board one after the other.
use Rattle.std.proofs.Common.{◌≡◌, ◌≢◌, refl, sym, ap, ◌∙◌, ◌⊎◌, inl, inr, ℕ, ◌+◌, ◌<◌, Bool, true, false, cond, nat_eq, List, [], ◌∷◌, None, Some, arith, eq-eqb}
use Rattle.std.proofs.lemmas.Bool.{eqb-true, ne_eqb}
use Rattle.one_item.specs.declared.item.Item.{Item}
use Rattle.board_items.specs.Boards.{Rise, item_at}
use Rattle.item_facts.specs.Known.{AreLeft}

pub none_below : (low high id : ℕ) (items : List (ℕ × Item)) → Rise low high items → id < low → item_at items id ≡ None
none_below low high id [] h lt = refl
none_below low high id (e ∷ es) h lt =
    ap (λ b. cond b (Some e.1) (item_at es id)) (ne_eqb id e.0 (λ same. omega (arith, h.0, same))) ∙ none_below (e.0 + 1) high id es h.1 (omega (arith, h.0))

pub at_head : (entry : ℕ × Item) (items : List (ℕ × Item)) → item_at (entry ∷ items) entry.0 ≡ Some entry.1
at_head entry items = ap (λ b. cond b (Some entry.1) (item_at items entry.0)) (eq-eqb entry.0 entry.0 refl)

pub past_head : (entry : ℕ × Item) (items : List (ℕ × Item)) (id : ℕ) → id ≢ entry.0 → item_at (entry ∷ items) id ≡ item_at items id
past_head entry items id other = ap (λ b. cond b (Some entry.1) (item_at items id)) (ne_eqb id entry.0 other)

-- an id behind the head is another one
pub other_id : (low high : ℕ) (entry : ℕ × Item) (items : List (ℕ × Item)) → Rise low high (entry ∷ items) → (id : ℕ) (item : Item) → item_at items id ≡ Some item → id ≢ entry.0
other_id low high entry items rise id item found same = let none = none_below (entry.0 + 1) high id items rise.1 (omega (arith, same)) in absurd (differ none found)
  where
    differ : item_at items id ≡ None → item_at items id ≡ Some item → ⊥
    differ e f = cc

pub all_left : (low high : ℕ) (items : List (ℕ × Item)) → Rise low high items → AreLeft items items
all_left low high items rise = record { rising = record { low = low; high = high; rise = rise }; same = λ id item e. e }

module _ (items : List (ℕ × Item)) (entry : ℕ × Item) (left : List (ℕ × Item)) (l : AreLeft items (entry ∷ left)) where
  pub head_is : item_at items entry.0 ≡ Some entry.1
  head_is = l.same entry.0 entry.1 (at_head entry left)

  pub behind : (id : ℕ) (item : Item) → item_at left id ≡ Some item → id ≢ entry.0
  behind id item found = other_id l.rising.low l.rising.high entry left l.rising.rise id item found

  pub next_left : AreLeft items left
  next_left = record {
    rising = record { low = entry.0 + 1; high = l.rising.high; rise = l.rising.rise.1 };
    same = λ id item found. l.same id item (past_head entry left id (behind id item found) ∙ found);
  }

  -- the head, or one that is left behind it
  pub head_or_left : (id : ℕ) (item : Item) → item_at (entry ∷ left) id ≡ Some item → ((id ≡ entry.0) × (item ≡ entry.1)) ⊎ (item_at left id ≡ Some item)
  head_or_left id item found = by_id (nat_eq id entry.0) refl
    where
      some_same : (a b : Item) → Some a ≡ Some b → b ≡ a
      some_same a b e = cc

      by_id : (b : Bool) → nat_eq id entry.0 ≡ b → ((id ≡ entry.0) × (item ≡ entry.1)) ⊎ (item_at left id ≡ Some item)
      by_id true e =
          let here : Some entry.1 ≡ Some item = sym (ap (λ b. cond b (Some entry.1) (item_at left id)) e) ∙ found in
          inl (eqb-true id entry.0 e, some_same entry.1 item here)
      by_id false e = inr (sym (ap (λ b. cond b (Some entry.1) (item_at left id)) e) ∙ found)
