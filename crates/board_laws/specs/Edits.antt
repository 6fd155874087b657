-- A board before and after an edit of the items of some ids: what is added, taken out, put back or moved.
use Rattle.std.specs.Prelude.{◌≡◌, ◌⊎◌, ℕ, Bool, not, nat_eq, List, filter, Contains, Some}
use Rattle.std.specs.List.{list_any}
use Rattle.one_item.specs.declared.item.Item.{Item}
use Rattle.board_items.specs.Boards.{PlainBoard, Rise, item_at}

-- all items but those of these ids are as they were, and so are the layers and the nets
pub record IsEdit (old new : PlainBoard) (ids : List ℕ) : Type 0 where
  pub rises_before : Rise 0 old.next_id old.items
  pub rises_now : Rise 0 new.next_id new.items
  pub copper : new.copper ≡ old.copper
  pub nets : new.nets ≡ old.nets
  pub rest : (id : ℕ) → ¬ (Contains ids id) → item_at new.items id ≡ item_at old.items id

-- the item stood under the id before, or stands there now
abbrev pub WasOrIs : PlainBoard → PlainBoard → ℕ → Item → Type 0
WasOrIs old new id item = (item_at old.items id ≡ Some item) ⊎ (item_at new.items id ≡ Some item)

-- the id is one of these
abbrev pub is_one_of : List ℕ → ℕ → Bool
is_one_of ids id = list_any (λ known. nat_eq known id) ids

-- the entries of all other ids
abbrev pub other_entries : List ℕ → List (ℕ × Item) → List (ℕ × Item)
other_entries ids items = filter (λ entry. not (is_one_of ids entry.0)) items
