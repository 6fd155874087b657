-- Items by id, kept as a row of slots: slot k is for the id k, and it is empty once its item was taken out.
use Rattle.std.specs.Prelude.{◌≡◌, ◌<◌, ◌≤◌, ℕ, ◌+◌, ℤ, Bool, true, false, ◌&&◌, not, nat_eq, List, [], ◌∷◌, length, get_or, filter, Option, None, Some, MatchBool, if◌then◌else◌}
use Rattle.one_item.specs.declared.item.Item.{Item}
use Rattle.one_item.specs.ItemParts.{parts_of, FirstHasPoints}
use Rattle.one_item.specs.Positions.{is_on_board}
use Rattle.one_item.specs.ItemMoves.{IsShiftedItem, item_stays}
use Rattle.board_items.specs.UnitMoves.{moves}

-- the items that are there with their ids, where the first slot is for the id k
abbrev pub present : ℕ → List (Option Item) → List (ℕ × Item)
present k [] = []
present k (None ∷ slots) = present (k + 1) slots
present k (Some item ∷ slots) = (k, item) ∷ present (k + 1) slots

-- what stands in a slot, if there is such a slot
abbrev pub at_slot : Option (Option Item) → Option Item
at_slot None = None
at_slot (Some slot) = slot

-- the first item that is there, and the slots behind it
pub record IsNext (first : ℕ) (slots : List (Option Item)) (id : ℕ) (item : Item) (behind : List (Option Item)) : Type 0 where
  pub items : present first slots ≡ (id, item) ∷ present (id + 1) behind
  pub spare_capacity : id + 1 + length behind ≤ first + length slots

-- the items without the one of an id
abbrev pub without_id : ℕ → List (ℕ × Item) → List (ℕ × Item)
without_id id items = filter (λ entry. not (nat_eq entry.0 id)) items

-- the item in the slot, if there is one, is of the unit
abbrev pub is_slot_of : ℕ → Option Item → Bool
is_slot_of unit None = false
is_slot_of unit (Some item) = nat_eq item.unit unit

-- ---- units
-- the unit of the item in the slot, if there is one
abbrev pub IsUnitIn : Option Item → ℕ → Type 0
IsUnitIn None unit = Unit {0}
IsUnitIn (Some item) unit = item.unit ≡ unit

-- of each slot the unit of its item
abbrev pub AreUnitsIn : List (Option Item) → List ℕ → Type 0
AreUnitsIn [] [] = Unit {0}
AreUnitsIn [] (unit ∷ units) = ⊥
AreUnitsIn (slot ∷ slots) [] = ⊥
AreUnitsIn (slot ∷ slots) (unit ∷ units) = IsUnitIn slot unit × AreUnitsIn slots units

-- no unit of the row is below an earlier one
abbrev pub UnitsRise : ℕ → List ℕ → Type 0
UnitsRise low [] = Unit {0}
UnitsRise low (unit ∷ units) = (low ≤ unit) × UnitsRise unit units

-- the same as a test
abbrev pub is_unit_in : Option Item → ℕ → Bool
is_unit_in None unit = true
is_unit_in (Some item) unit = nat_eq item.unit unit

abbrev pub are_units_in : List (Option Item) → List ℕ → Bool
are_units_in [] [] = true
are_units_in [] (unit ∷ units) = false
are_units_in (slot ∷ slots) [] = false
are_units_in (slot ∷ slots) (unit ∷ units) = is_unit_in slot unit && are_units_in slots units

-- all slots of the unit are among those from one place on and before another
pub record ArePlacesOf (unit : ℕ) (units : List ℕ) (from end : ℕ) : Type 0 where
  pub ordered : from ≤ end
  pub within : end ≤ length units
  pub all : (n : ℕ) → n < length units → get_or units n 0 ≡ unit → (from ≤ n) × (n < end)

-- each item of the unit has one of the ids from one on and before another
abbrev pub HaveIdsIn : ℕ → ℕ → ℕ → List (ℕ × Item) → Type 0
HaveIdsIn unit from end [] = Unit {0}
HaveIdsIn unit from end (entry ∷ entries) = (entry.1.unit ≡ unit → (from ≤ entry.0) × (entry.0 < end)) × HaveIdsIn unit from end entries

-- the items of the unit, where the first slot is for the id k
abbrev pub unit_items : ℕ → ℕ → List (Option Item) → List (ℕ × Item)
unit_items unit k slots = filter (λ entry. nat_eq entry.1.unit unit) (present k slots)

-- the item in the slot if it is of the unit
abbrev pub only_of : ℕ → Option Item → Option Item
only_of unit None = None
only_of unit (Some item) = if nat_eq item.unit unit then Some item else None

-- the first item of the unit, and the slots and units behind it
pub record IsNextOf (unit first : ℕ) (slots : List (Option Item)) (id : ℕ) (item : Item) (behind : List (Option Item)) (units : List ℕ) : Type 0 where
  pub items : unit_items unit first slots ≡ (id, item) ∷ unit_items unit (id + 1) behind
  pub spare_capacity : id + 1 + length behind ≤ first + length slots
  pub units_in : are_units_in behind units ≡ true

-- ---- moves
abbrev pub is_slot_on_board : Option Item → Bool
is_slot_on_board None = true
is_slot_on_board (Some item) = is_on_board item

abbrev pub slot_stays : ℕ → ℤ → ℤ → Option Item → Bool
slot_stays unit dx dy None = true
slot_stays unit dx dy (Some item) = if moves unit item then item_stays dx dy item else true

-- the item is moved if it moves with the unit; then its first part has points
abbrev pub IsMovedItem : ℕ → ℤ → ℤ → Item → Item → Type 0
IsMovedItem unit dx dy old new =
    MatchBool (moves unit old) (IsShiftedItem dx dy old new × FirstHasPoints (parts_of old)) (new ≡ old)

abbrev pub IsMovedSlot : ℕ → ℤ → ℤ → Option Item → Option Item → Type 0
IsMovedSlot unit dx dy None None = Unit {0}
IsMovedSlot unit dx dy None (Some new) = ⊥
IsMovedSlot unit dx dy (Some old) None = ⊥
IsMovedSlot unit dx dy (Some old) (Some new) = IsMovedItem unit dx dy old new
