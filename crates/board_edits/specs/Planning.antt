-- What the code finds out of a command.
use Rattle.std.specs.Prelude.{◌≡◌, ◌⊎◌, ℕ, Result, Ok, Err}
use Rattle.board_errors.specs.declared.errors.BoardError.{BoardError}
use Rattle.board_errors.specs.declared.errors.BoardError.TheVariants.{OutOfMemory as NoMemory}
use Rattle.board_items.specs.declared.found.Found.{Found}
use Rattle.board_items.specs.declared.found.Found.TheVariants.{None as NoUnit, Shared, Inside, Unit as OneUnit}
use Rattle.board_items.specs.Boards.{PlainBoard}
use Rattle.edit_script.specs.Commands.{PlainCommand}
use Rattle.board_edits.specs.declared.operation.Operation.{Operation}
use Rattle.board_edits.specs.declared.refusal.Refusal.{Refusal}
use Rattle.board_edits.specs.declared.refusal.Refusal.TheVariants.{NoSuchItem, SharedName, PartOfFootprint, Item, OutOfMemory}
use Rattle.board_edits.specs.Operations.{PlainOperation, Does}
use Rattle.board_edits.specs.Fitting.{plain_operation}

abbrev pub plain_answer : Result Operation Refusal → Result PlainOperation Refusal
plain_answer (Ok operation) = Ok (plain_operation operation)
plain_answer (Err why) = Err why

-- it is what the command does, unless memory ran out
abbrev pub IsFound : PlainBoard → PlainCommand → Result Operation Refusal → Type 0
IsFound board command (Ok operation) = Does board command (Ok (plain_operation operation))
IsFound board command (Err why) = (why ≡ OutOfMemory) ⊎ Does board command (Err why)

-- why an added list is refused
abbrev pub refusal_in : BoardError → Refusal
refusal_in NoMemory = OutOfMemory
refusal_in why = Item why

-- the unit, or why there is none
abbrev pub unit_in : Found → Result ℕ Refusal
unit_in NoUnit = Err NoSuchItem
unit_in Shared = Err SharedName
unit_in Inside = Err PartOfFootprint
unit_in (OneUnit unit) = Ok unit
