-- What the commands so far have made of a board, as the code keeps it.
use Rattle.std.specs.Prelude.{◌≡◌, ℕ, ◌<◌, ◌≤◌, Bool, true, false, List, [], ◌∷◌, ◌++◌, length, map, All, None, Some, Result, Ok, Err, slice_set, if◌then◌else◌, ⊤}
use Rattle.sexpr_read.specs.Spelling.{SpellsAll}
use Rattle.sexpr_read.specs.TreeViews.{root_of}
use Rattle.one_item.specs.declared.item.Item.{Item}
use Rattle.board_items.specs.Boards.{PlainBoard}
use Rattle.edit_script.specs.Commands.{PlainCommand, add, delete, move, rules, again}
use Rattle.board_edits.specs.declared.refusal.Refusal.{Refusal}
use Rattle.board_edits.specs.Operations.{PlainOperation, nothing, append, put_back, take_out, shift, After, Does, DoAll}
use Rattle.board_edits.specs.Fitting.{OperationFits}
use Rattle.roundtrip_boards.specs.TextChanges.{Change, AreChanges}
use Rattle.roundtrip_boards.specs.WrittenBoard.{Draft, untouched, with_changes}
use Rattle.board_write.specs.declared.marks.Mark.TheVariants.{Stays, Gone}
use Rattle.board_write.specs.declared.edit_state.AddedList.{AddedList}
use Rattle.board_write.specs.declared.edit_state.EditState.{EditState}
use Rattle.board_write.specs.Marks.{plain_mark, mark_at, AreMarks, IsMarkedOn, IsHeld, IsShortShift}
use Rattle.board_write.specs.Dispositions.{IsAlone, plain_added}
use Rattle.board_write.specs.WriteResults.{refused_by, refused_in}

-- ---- one command

abbrev pub is_nil : List Item → Bool
is_nil [] = true
is_nil (item ∷ items) = false

-- nothing is noted
pub record SameNotes (old new : EditState) : Type 0 where
  pub marks : new.marks.items ≡ old.marks.items
  pub added : new.added.items ≡ old.added.items

-- the list of the text is noted last, and where it gives items it is the unit that comes next, which stays
pub record IsListNoted (text : List ℕ) (is_empty : Bool) (old new : EditState) : Type 0 where
  pub list : AddedList
  pub spelled : SpellsAll text (root_of list.doc)
  pub unit : list.unit ≡ (if is_empty then None else Some old.board.next_unit)
  pub added : new.added.items ≡ old.added.items ++ list ∷ []
  pub marks : new.marks.items ≡ (if is_empty then old.marks.items else old.marks.items ++ Stays ∷ [])

abbrev pub IsAppendNoted : PlainCommand → Bool → EditState → EditState → Type 0
IsAppendNoted (add text at) is_empty old new = IsListNoted text is_empty old new
IsAppendNoted (delete name at) is_empty old new = ⊤
IsAppendNoted (move name dx dy at) is_empty old new = ⊤
IsAppendNoted (rules text at) is_empty old new = ⊤
IsAppendNoted (again at) is_empty old new = ⊤

-- what the operation of a command changes is noted
abbrev pub IsNoted : PlainCommand → PlainOperation → EditState → EditState → Type 0
IsNoted command nothing old new = SameNotes old new
IsNoted command (append items) old new = IsAppendNoted command (is_nil items) old new
IsNoted command (put_back items) old new = SameNotes old new
IsNoted command (take_out unit) old new = (new.marks.items ≡ slice_set old.marks.items unit Gone) × (new.added.items ≡ old.added.items)
IsNoted command (shift unit dx dy) old new = IsMarkedOn dx dy unit old.marks.items new.marks.items × (new.added.items ≡ old.added.items) × IsHeld dx × IsHeld dy

-- the unit of an operation has a mark, and can be moved once more
abbrev pub CanNote : PlainOperation → EditState → Type 0
CanNote nothing edit_state = ⊤
CanNote (append items) edit_state = ⊤
CanNote (put_back items) edit_state = ⊤
CanNote (take_out unit) edit_state = unit < length edit_state.marks.items
CanNote (shift unit dx dy) edit_state = (unit < length edit_state.marks.items) × IsShortShift 4294967294 (plain_mark (mark_at edit_state.marks.items unit))

-- what a command that is carried out, or refused, leaves
abbrev pub LeftBy : PlainCommand → Result PlainOperation Refusal → EditState → EditState → Type 0
LeftBy command (Ok operation) old new = OperationFits old.board operation × After old.board operation new.board × IsNoted command operation old new
LeftBy command (Err why) old new = (new.board ≡ old.board) × SameNotes old new

pub record IsCommandStep (command : PlainCommand) (old new : EditState) : Type 0 where
  pub answer : Result PlainOperation Refusal
  pub does : Does old.board command answer
  pub left : LeftBy command answer old new
  pub counted : new.refused ≡ refused_by answer old.refused

-- ---- all commands so far

-- the marks and the added lists are those of a draft of the changes, with a mark for each unit
pub record IsDraft (draft : Draft) (edit_state : EditState) : Type 0 where
  pub marks : AreMarks draft edit_state.marks.items
  pub added : draft.added ≡ map plain_added edit_state.added.items
  pub alone : All IsAlone edit_state.added.items
  pub next : draft.next_unit ≡ edit_state.board.next_unit
  pub each : length edit_state.marks.items ≡ edit_state.board.next_unit

pub record Reached (start : PlainBoard) (commands : List PlainCommand) (edit_state : EditState) : Type 0 where
  pub answers : List (Result PlainOperation Refusal)
  pub changes : List Change
  pub done : DoAll start commands answers edit_state.board
  pub are_changes : AreChanges commands answers changes
  pub drafted : IsDraft (with_changes (untouched start.next_unit) changes) edit_state
  pub counted : edit_state.refused ≡ refused_in answers
  pub short : (unit : ℕ) → IsShortShift (length commands) (plain_mark (mark_at edit_state.marks.items unit))
  pub few : edit_state.refused ≤ length commands

-- so were some commands carried out, fewer than may be
pub record IsOnEditState (edit_state : EditState) : Type 0 where
  pub start : PlainBoard
  pub before : List PlainCommand
  pub reached : Reached start before edit_state
  pub few : length before < 4294967295
