-- Units that are taken out of a board, and put back under the ids that their items had.
use Rattle.std.specs.Prelude.{◌≡◌, ◌≢◌, ◌⊎◌, ◌<◌, ◌≤◌, ℕ, ◌+◌, ◌&&◌, true, List, [], ◌∷◌, length, filter, nat_eq, nat_lt, None, All, Contains, if◌then◌else◌}
use Rattle.std.specs.List.{AllPairs}
use Rattle.plain_types.specs.Limits.{most_items}
use Rattle.board_items.specs.declared.back.Kept.{Kept}
use Rattle.one_item.specs.declared.item.Item.{Item}
use Rattle.board_items.specs.Boards.{PlainBoard, Rise, item_at, is_admitted}

-- an id with the item that stood under it
abbrev pub kept_entry : Kept → ℕ × Item
kept_entry kept = (kept.id, kept.item)

-- the items of the unit with their ids
abbrev pub entries_of : ℕ → List (ℕ × Item) → List (ℕ × Item)
entries_of unit items = filter (λ entry. nat_eq entry.1.unit unit) items

-- the items of both lists stand in one, in the order of their ids
pub record AreMerged (old some new : List (ℕ × Item)) : Type 0 where
  pub rises : AllPairs (λ (e f : ℕ × Item). e.0 < f.0) new
  pub kept : All (Contains new) old
  pub back : All (Contains new) some
  pub only : All (λ e. Contains old e ⊎ Contains some e) new

-- the items stand on the board again, at the places of their ids, and all else is as it was
pub record IsPutBack (items : List (ℕ × Item)) (old new : PlainBoard) : Type 0 where
  pub merged : AreMerged old.items items new.items
  pub others : new ≡ record old { items = new.items }

-- the items may be put back: their ids rise, were given once and are not in the board; they are of one unit, which was
-- given once and is not in the board; each of them may stand there, and there is room for them
pub record FitsBack (board : PlainBoard) (items : List (ℕ × Item)) : Type 0 where
  pub ids : Rise 0 board.next_id items
  pub free : All (λ e. item_at board.items e.0 ≡ None) items
  pub unit : ℕ
  pub own : All (λ e. e.1.unit ≡ unit) items
  pub given : All (λ e. e.1.unit < board.next_unit) items
  pub gone : All (λ e. e.1.unit ≢ unit) board.items
  pub admitted : All (λ e. is_admitted board e.1 ≡ true) items
  pub few : length board.items + length items ≤ most_items

-- ---- one item at a time
-- the entry stands before the first one with a greater id
abbrev pub placed : ℕ × Item → List (ℕ × Item) → List (ℕ × Item)
placed e [] = e ∷ []
placed e (x ∷ xs) = if nat_lt e.0 x.0 then e ∷ x ∷ xs else x ∷ placed e xs

-- each entry of the first list stands in the second
abbrev pub all_placed : List (ℕ × Item) → List (ℕ × Item) → List (ℕ × Item)
all_placed [] xs = xs
all_placed (e ∷ es) xs = placed e (all_placed es xs)

-- the same of an id among others
abbrev pub id_placed : ℕ → List ℕ → List ℕ
id_placed id [] = id ∷ []
id_placed id (x ∷ xs) = if nat_lt id x then id ∷ x ∷ xs else x ∷ id_placed id xs

-- the one item may be put back
pub record FitsOne (board : PlainBoard) (e : ℕ × Item) : Type 0 where
  pub id : e.0 < board.next_id
  pub free : item_at board.items e.0 ≡ None
  pub unit : e.1.unit < board.next_unit
  pub admitted : is_admitted board e.1 ≡ true
  pub few : length board.items < most_items

-- the item of the id, where it is of the unit
abbrev pub own_at : ℕ → ℕ → List (ℕ × Item) → List (ℕ × Item)
own_at id unit items = filter (λ entry. nat_eq entry.0 id && nat_eq entry.1.unit unit) items
