-- Tags of names: a row of numbers beside the slots, by which the items of a name are sought without a look at most others.
use Rattle.std.specs.Prelude.{◌≡◌, ◌<◌, ℕ, ◌+◌, ◌-◌, ◌*◌, ◌%◌, ◌^◌, Bool, true, false, ◌&&◌, nat_eq, bytes_eq, List, [], ◌∷◌, length, drop, filter, Option, None, Some, if◌then◌else◌}
use Rattle.one_item.specs.declared.item.Item.{Item}
use Rattle.board_items.specs.ItemSlots.{present}

-- the tag with one more byte
abbrev pub tag_next : ℕ → ℕ → ℕ
tag_next tag byte = ((tag * 16) % 2 ^ 32 + byte) % 2 ^ 32

abbrev pub tag_from : ℕ → List ℕ → ℕ
tag_from tag [] = tag
tag_from tag (byte ∷ bytes) = tag_from (tag_next tag byte) bytes

-- the tag of a name is made of its last eight bytes, since names are mostly ids, which differ at their ends
abbrev pub tag_of : List ℕ → ℕ
tag_of name = tag_from 0 (drop (length name - 8) name)

-- ---- the row of tags
-- the tag of the name of the item in the slot, if there is one
abbrev pub IsTagIn : Option Item → ℕ → Type 0
IsTagIn None tag = Unit {0}
IsTagIn (Some item) tag = tag_of item.name ≡ tag

-- of each slot the tag of its item
abbrev pub AreTagsIn : List (Option Item) → List ℕ → Type 0
AreTagsIn [] [] = Unit {0}
AreTagsIn [] (tag ∷ tags) = ⊥
AreTagsIn (slot ∷ slots) [] = ⊥
AreTagsIn (slot ∷ slots) (tag ∷ tags) = IsTagIn slot tag × AreTagsIn slots tags

-- the same as a test
abbrev pub is_tag_in : Option Item → ℕ → Bool
is_tag_in None tag = true
is_tag_in (Some item) tag = nat_eq (tag_of item.name) tag

abbrev pub are_tags_in : List (Option Item) → List ℕ → Bool
are_tags_in [] [] = true
are_tags_in [] (tag ∷ tags) = false
are_tags_in (slot ∷ slots) [] = false
are_tags_in (slot ∷ slots) (tag ∷ tags) = is_tag_in slot tag && are_tags_in slots tags

-- ---- the items of a name
-- with their ids
abbrev pub all_named : List ℕ → List (ℕ × Item) → List (ℕ × Item)
all_named name items = filter (λ entry. bytes_eq entry.1.name name) items

-- those in the slots from the id k on
abbrev pub named_from : List ℕ → ℕ → List (Option Item) → List (ℕ × Item)
named_from name k slots = all_named name (present k (drop k slots))

-- the item in the slot if it has the name
abbrev pub only_named : List ℕ → Option Item → Option Item
only_named name None = None
only_named name (Some item) = if bytes_eq item.name name then Some item else None

-- the first item of the name from there on
pub record IsNextNamed (name : List ℕ) (first : ℕ) (slots : List (Option Item)) (id : ℕ) (item : Item) : Type 0 where
  pub items : named_from name first slots ≡ (id, item) ∷ named_from name (id + 1) slots
  pub within : id < length slots
