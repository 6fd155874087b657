-- What a board keeps beside its plain lists: the ids of marks, of notes and of each net, so that none is sought again, how
-- many items there are, and the unit and the tag of each slot.
use Rattle.std.specs.Prelude.{◌≡◌, ℕ, zero, suc, Bool, true, List, [], ◌∷◌, length, Option, Vec}
use Rattle.std.specs.declared.alloc.Global.{Global}
use Rattle.one_item.specs.declared.item.Item.{Item}
use Rattle.board_items.specs.ItemSlots.{AreUnitsIn, UnitsRise}
use Rattle.board_items.specs.Tags.{AreTagsIn}
use Rattle.board_items.specs.ItemNotes.{notes_of}
use Rattle.board_items.specs.Boards.{PlainBoard, IsSound, marks_of, ids_of_net}

-- the net stands at the place among the nets
abbrev pub IsNetAt : ℕ → List (ℕ × List ℕ) → ℕ → Type 0
IsNetAt number [] place = ⊥
IsNetAt number (net ∷ nets) zero = net.0 ≡ number
IsNetAt number (net ∷ nets) (suc place) = IsNetAt number nets place

-- of each net the ids of its items
abbrev pub AreIdsOf : List (ℕ × Item) → List (ℕ × List ℕ) → List (Vec ℕ Global) → Type 0
AreIdsOf items [] [] = Unit {0}
AreIdsOf items [] (ids ∷ others) = ⊥
AreIdsOf items (net ∷ nets) [] = ⊥
AreIdsOf items (net ∷ nets) (ids ∷ others) = (ids.items ≡ ids_of_net net.0 items) × AreIdsOf items nets others

pub record IsKept (board : PlainBoard) (mark_ids : List ℕ) (net_ids : List (Vec ℕ Global)) (live : ℕ) : Type 0 where
  pub sound : IsSound board
  pub marks : mark_ids ≡ marks_of board.items
  pub of_nets : AreIdsOf board.items board.nets net_ids
  pub count : live ≡ length board.items

-- the same with the row of slots, beside which the tag and the unit of each stand, and which is in order where units rise along it
pub record IsWholeBoard (board : PlainBoard) (mark_ids note_ids : List ℕ) (net_ids : List (Vec ℕ Global)) (live : ℕ) (slots : List (Option Item)) (tags units : List ℕ) (in_order : Bool) : Type 0 where
  pub kept : IsKept board mark_ids net_ids live
  pub notes : note_ids ≡ notes_of board.items
  pub tags_in : AreTagsIn slots tags
  pub units_in : AreUnitsIn slots units
  pub rise : in_order ≡ true → UnitsRise 0 units
