-- Which items an operation touches.
use Rattle.std.specs.Prelude.{◌≡◌, ◌≢◌, ◌&&◌, ℕ, pos, List, [], map, filter, All, Contains, None, Some, if◌then◌else◌}
use Rattle.std.specs.Ordering.{int_eq}
use Rattle.std.specs.List.Sorted.{IsStrictlyIncreasing}
use Rattle.one_item.specs.declared.item.Item.{Item}
use Rattle.board_items.specs.Back.{entries_of}
use Rattle.board_items.specs.Boards.{PlainBoard, item_at}
use Rattle.board_items.specs.UnitMoves.{moves}
use Rattle.one_item.specs.ItemParts.{parts_of}
use Rattle.board_laws.specs.Edits.{IsEdit, WasOrIs}
use Rattle.board_edits.specs.Operations.{PlainOperation, take_out, shift}

-- the ids of the items of the board that it takes out or moves, rising. A move by nothing moves none
abbrev pub ids_touched : PlainBoard → PlainOperation → List ℕ
ids_touched board (take_out unit) = map (λ entry. entry.0) (entries_of unit board.items)
ids_touched board (shift unit dx dy) = if int_eq dx (pos 0) && int_eq dy (pos 0) then [] else map (λ entry. entry.0) (filter (λ entry. moves unit entry.1) board.items)
ids_touched board operation = []

-- the item of the id was added or taken out, or its parts are others
pub data ItemDiffers (old new : PlainBoard) (id : ℕ) : Type 0 where
  added : item_at old.items id ≡ None → (item : Item) → item_at new.items id ≡ Some item → ItemDiffers old new id
  removed : (item : Item) → item_at old.items id ≡ Some item → item_at new.items id ≡ None → ItemDiffers old new id
  reshaped : (was is : Item) → item_at old.items id ≡ Some was → item_at new.items id ≡ Some is → parts_of was ≢ parts_of is → ItemDiffers old new id

-- all other items are as they were, and those of the ids that have parts are not
pub record AreEdited (old new : PlainBoard) (ids : List ℕ) : Type 0 where
  pub rise : IsStrictlyIncreasing ids
  pub edit : IsEdit old new ids
  pub differ : (id : ℕ) (item : Item) → Contains ids id → WasOrIs old new id item → parts_of item ≢ [] → ItemDiffers old new id

-- the ids are those that were touched, or the old board had no item of theirs
pub data AreKnown (old : PlainBoard) (touched ids : List ℕ) : Type 0 where
  touched_before : ids ≡ touched → AreKnown old touched ids
  brought : touched ≡ [] → All (λ id. item_at old.items id ≡ None) ids → AreKnown old touched ids
