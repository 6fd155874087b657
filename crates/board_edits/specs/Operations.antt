-- What a command does to a board, or why it is refused. A refused command leaves the board as it is.
use Rattle.std.specs.Prelude.{◌≡◌, ℕ, ℤ, List, [], ◌∷◌, Result, Ok, Err, if◌then◌else◌, ⊤}
use Rattle.board_errors.specs.declared.errors.BoardError.{BoardError}
use Rattle.board_errors.specs.declared.errors.BoardError.TheVariants.{OutOfBoard}
use Rattle.board_items.specs.declared.found.Found.{Found}
use Rattle.board_items.specs.declared.found.Found.TheVariants.{None as NoUnit, Shared, Inside, Unit as OneUnit}
use Rattle.one_item.specs.declared.item.Item.{Item}
use Rattle.board_items.specs.Back.{IsPutBack}
use Rattle.board_items.specs.Boards.{PlainBoard}
use Rattle.board_items.specs.UnitMoves.{unit_stays, IsMoved}
use Rattle.board_items.specs.Units.{found_of, without_unit}
use Rattle.pcb_read.specs.BoardOf.{with_items}
use Rattle.pcb_read.specs.ItemText.{SaysItem}
use Rattle.edit_script.specs.Commands.{PlainCommand, add, delete, move, rules, again}
use Rattle.board_edits.specs.declared.refusal.Refusal.{Refusal}
use Rattle.board_edits.specs.declared.refusal.Refusal.TheVariants.{NoSuchItem, SharedName, PartOfFootprint, Item as ItemRefused}

-- nothing is done; items go last, one after another; items are put back under the ids that they had; a unit is taken out; or one is
-- moved by nanometres
pub data PlainOperation : Type 0 where
  nothing : PlainOperation
  append : List Item → PlainOperation
  put_back : List (ℕ × Item) → PlainOperation
  take_out : ℕ → PlainOperation
  shift : ℕ → ℤ → ℤ → PlainOperation

-- the operation makes the one board the other. Of a unit that is moved, notes stay, and places are kept
abbrev pub After : PlainBoard → PlainOperation → PlainBoard → Type 0
After old nothing new = new ≡ old
After old (append items) new = new ≡ with_items old items
After old (put_back items) new = IsPutBack items old new
After old (take_out unit) new = new ≡ without_unit old unit
After old (shift unit dx dy) new = IsMoved unit dx dy old new

-- ---- what a command does

-- the items of an added list
abbrev pub appended : Result (List Item) BoardError → Result PlainOperation Refusal
appended (Ok items) = Ok (append items)
appended (Err why) = Err (ItemRefused why)

-- what is done to the unit that a name stands for, where it stands for one
abbrev pub to_unit : Found → (ℕ → Result PlainOperation Refusal) → Result PlainOperation Refusal
to_unit NoUnit of = Err NoSuchItem
to_unit Shared of = Err SharedName
to_unit Inside of = Err PartOfFootprint
to_unit (OneUnit unit) of = of unit

-- a unit is moved where all of it stays on the board
abbrev pub shifted : PlainBoard → ℤ → ℤ → ℕ → ℕ → Result PlainOperation Refusal
shifted board dx dy at unit = if unit_stays unit dx dy board.items then Ok (shift unit dx dy) else Err (ItemRefused (OutOfBoard at))

-- what the command does to the board, or why it is refused. An added list makes a unit that no item had before; rules, and a report
-- again, leave the board as it is
abbrev pub Does : PlainBoard → PlainCommand → Result PlainOperation Refusal → Type 0
Does board (add text at) answer = (items : Result (List Item) BoardError) × SaysItem board board.next_unit text at items × (answer ≡ appended items)
Does board (delete name at) answer = answer ≡ to_unit (found_of name board.items) (λ unit. Ok (take_out unit))
Does board (move name dx dy at) answer = answer ≡ to_unit (found_of name board.items) (shifted board dx dy at)
Does board (rules text at) answer = answer ≡ Ok nothing
Does board (again at) answer = answer ≡ Ok nothing

-- the command gives no item: a list that has none is added, or the report is written again
abbrev pub GivesNoItem : PlainBoard → PlainCommand → Type 0
GivesNoItem board (add text at) = SaysItem board board.next_unit text at (Ok [])
GivesNoItem board (delete name at) = ⊥
GivesNoItem board (move name dx dy at) = ⊥
GivesNoItem board (rules text at) = ⊥
GivesNoItem board (again at) = ⊤

-- ---- one command after another

-- the board after what a command does, or after its refusal
abbrev pub IsLeft : PlainBoard → Result PlainOperation Refusal → PlainBoard → Type 0
IsLeft board (Ok operation) new = After board operation new
IsLeft board (Err why) new = new ≡ board

-- what each of the commands does, or why it is refused, and the board after all of them
abbrev pub DoAll : PlainBoard → List PlainCommand → List (Result PlainOperation Refusal) → PlainBoard → Type 0
DoAll board [] [] last = last ≡ board
DoAll board [] (answer ∷ answers) last = ⊥
DoAll board (command ∷ commands) [] last = ⊥
DoAll board (command ∷ commands) (answer ∷ answers) last = (new : PlainBoard) × Does board command answer × IsLeft board answer new × DoAll new commands answers last
