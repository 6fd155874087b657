-- What the commands of a script change in the text of a board: beside what they do to the board itself, the list that an added text is.
use Rattle.std.specs.Prelude.{◌≡◌, ℕ, List, [], ◌∷◌, true, Result, Ok, Err}
use Rattle.sexpr_read.specs.Tree.{Tree, parts}
use Rattle.sexpr_read.specs.Spelling.{SpellsAll}
use Rattle.board_items.specs.declared.found.Found.TheVariants.{Unit as OneUnit}
use Rattle.one_item.specs.declared.item.Item.{Item}
use Rattle.board_items.specs.Boards.{PlainBoard}
use Rattle.board_items.specs.UnitMoves.{unit_stays, IsMoved}
use Rattle.board_items.specs.Units.{without_unit, found_of}
use Rattle.edit_script.specs.Commands.{PlainCommand, add, delete, move, rules, again}
use Rattle.roundtrip_lists.specs.Translated.{Shift}
use Rattle.pcb_read.specs.BoardOf.{with_items}
use Rattle.pcb_read.specs.ItemText.{SaysList}
use Rattle.board_edits.specs.declared.refusal.Refusal.{Refusal}
use Rattle.board_edits.specs.Operations.{PlainOperation, nothing, append, put_back, take_out, shift}

-- nothing changes; a unit is taken out; one is moved; or a list is added, with the items that it gives
pub data Change : Type 0 where
  unchanged : Change
  takes_out : (unit : ℕ) → Change
  shifts : (unit : ℕ) (by : Shift) → Change
  appends : (list : Tree) (items : List Item) → Change

-- the one list of an added text
abbrev pub IsListIn : List ℕ → Tree → Type 0
IsListIn text list = (forms : Tree) × SpellsAll text forms × (parts forms ≡ list ∷ [])

abbrev pub IsListOf : PlainCommand → Tree → Type 0
IsListOf (add text at) list = IsListIn text list
IsListOf (delete name at) list = ⊥
IsListOf (move name dx dy at) list = ⊥
IsListOf (rules text at) list = ⊥
IsListOf (again at) list = ⊥

-- what the operation of a command changes
abbrev pub IsChangeBy : PlainCommand → PlainOperation → Change → Type 0
IsChangeBy command nothing change = change ≡ unchanged
IsChangeBy command (append items) change = (list : Tree) × IsListOf command list × (change ≡ appends list items)
IsChangeBy command (put_back items) change = ⊥
IsChangeBy command (take_out unit) change = change ≡ takes_out unit
IsChangeBy command (shift unit dx dy) change = change ≡ shifts unit (record { dx = dx; dy = dy })

-- a command that is refused changes nothing
abbrev pub IsChange : PlainCommand → Result PlainOperation Refusal → Change → Type 0
IsChange command (Ok operation) change = IsChangeBy command operation change
IsChange command (Err why) change = change ≡ unchanged

abbrev pub AreChanges : List PlainCommand → List (Result PlainOperation Refusal) → List Change → Type 0
AreChanges [] [] changes = changes ≡ []
AreChanges [] (answer ∷ answers) changes = ⊥
AreChanges (command ∷ commands) [] changes = ⊥
AreChanges (command ∷ commands) (answer ∷ answers) [] = ⊥
AreChanges (command ∷ commands) (answer ∷ answers) (change ∷ changes) = IsChange command answer change × AreChanges commands answers changes

-- ---- what is known of a change by the boards before and after it

-- some name stands for the unit
abbrev pub IsNamed : PlainBoard → ℕ → Type 0
IsNamed board unit = (name : List ℕ) × (found_of name board.items ≡ OneUnit unit)

-- the list is that of some text, and gives the items
abbrev pub IsAddedTo : PlainBoard → Tree → List Item → Type 0
IsAddedTo board list items = (text : List ℕ) × IsListIn text list × SaysList board board.next_unit list (Ok items)

abbrev pub Changes : PlainBoard → Change → PlainBoard → Type 0
Changes board unchanged new = new ≡ board
Changes board (takes_out unit) new = IsNamed board unit × (new ≡ without_unit board unit)
Changes board (shifts unit by) new = IsNamed board unit × (unit_stays unit by.dx by.dy board.items ≡ true) × IsMoved unit by.dx by.dy board new
Changes board (appends list items) new = IsAddedTo board list items × (new ≡ with_items board items)

abbrev pub ChangeAll : PlainBoard → List Change → PlainBoard → Type 0
ChangeAll board [] last = last ≡ board
ChangeAll board (change ∷ changes) last = (new : PlainBoard) × Changes board change new × ChangeAll new changes last
