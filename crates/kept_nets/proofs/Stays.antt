-- A net of whose items an edit touches none keeps its items.
use Rattle.std.proofs.Common.{◌≡◌, ℕ, Bool, true, false, not, List, Some, inl, inr, refl, sym, ◌∙◌, true≢false}
use Rattle.std.specs.List.{AllPairs, Contains}
use Rattle.std.proofs.lemmas.List.Kept.{AllPairs-filter}
use Rattle.one_item.specs.declared.item.Item.{Item}
use Rattle.board_items.specs.Boards.{PlainBoard, item_at}
use Rattle.net_groups.specs.NetGroups.{is_of_net, items_of}
use Rattle.board_laws.specs.Edits.{IsEdit, WasOrIs, is_one_of}
use Rattle.board_laws.proofs.Rest.{Entry, Under, rises, found_at, in_list, one_of, contains_filter, source, passed, is_left, left_id, same_from_elements}

module _ (old new : PlainBoard) (ids : List ℕ) (edit : IsEdit old new ids) (net : ℕ) (untouched : (id : ℕ) (item : Item) → Contains ids id → WasOrIs old new id item → is_of_net net item ≡ false) where
  other_net : (xs : List Entry) → ((id : ℕ) (item : Item) → Contains ids id → item_at xs id ≡ Some item → is_of_net net item ≡ false) → AllPairs Under xs → (e : Entry) → Contains (items_of net xs) e → is_left ids e ≡ true
  other_net xs apart rise e c = by (is_one_of ids e.0) refl
    where
      here : Contains xs e
      here = source (λ (f : Entry). is_of_net net f.1) xs e c

      of_net : is_of_net net e.1 ≡ true
      of_net = passed (λ (f : Entry). is_of_net net f.1) xs e c

      by : (b : Bool) → is_one_of ids e.0 ≡ b → not b ≡ true
      by false t = refl
      by true t = absurd (true≢false (sym of_net ∙ apart e.0 e.1 (one_of ids e.0 t) (found_at xs e rise here)))

  carried : (xs ys : List Entry) → AllPairs Under xs → ((id : ℕ) (item : Item) → Contains ids id → item_at xs id ≡ Some item → is_of_net net item ≡ false) → ((id : ℕ) → ¬ (Contains ids id) → item_at ys id ≡ item_at xs id) → (e : Entry) → Contains (items_of net xs) e → Contains (items_of net ys) e
  carried xs ys rise apart same e c =
      let left = left_id ids e (other_net xs apart rise e c) in
      let here = source (λ (f : Entry). is_of_net net f.1) xs e c in
      let of_net = passed (λ (f : Entry). is_of_net net f.1) xs e c in
      contains_filter (λ (f : Entry). is_of_net net f.1) ys e (in_list ys e.0 e.1 (same e.0 left ∙ found_at xs e rise here)) of_net

  -- a net of whose items none changed keeps its items
  pub net_stays : items_of net new.items ≡ items_of net old.items
  net_stays =
      let after = rises 0 new.next_id new.items edit.rises_now in
      let before = rises 0 old.next_id old.items edit.rises_before in
      same_from_elements (items_of net new.items) (items_of net old.items) (AllPairs-filter Under (λ (f : Entry). is_of_net net f.1) new.items after) (AllPairs-filter Under (λ (f : Entry). is_of_net net f.1) old.items before)
      (carried new.items old.items after (λ id item c e. untouched id item c (inr e)) (λ id out. sym (edit.rest id out))) (carried old.items new.items before (λ id item c e. untouched id item c (inl e)) edit.rest)
