-- Commands of a script and steps of a history, as plain data. Lengths are nanometres, and places are bytes of the whole script.
use Rattle.std.specs.Prelude.{ℕ, ℤ, List, map, Result, Ok, Err}
use Rattle.edit_script.specs.declared.command.Command.{Command}
use Rattle.edit_script.specs.declared.command.Command.TheVariants.{Add, Delete, Move, Rules, Again}
use Rattle.edit_script.specs.declared.command.Step.{Step}
use Rattle.edit_script.specs.declared.command.Step.TheVariants.{Edit, Undo, Redo}
use Rattle.edit_script.specs.declared.error.ScriptError.{ScriptError}

-- a command: an added list comes by its own text and where it begins, rules by the text of their whole form and where that begins
pub data PlainCommand : Type 0 where
  add : List ℕ → ℕ → PlainCommand
  delete : List ℕ → ℕ → PlainCommand
  move : List ℕ → ℤ → ℤ → ℕ → PlainCommand
  rules : List ℕ → ℕ → PlainCommand
  again : ℕ → PlainCommand

-- a step of a history: a command, or one of two words
pub data PlainStep : Type 0 where
  edit : PlainCommand → PlainStep
  undo : ℕ → PlainStep
  redo : ℕ → PlainStep

-- its place in the script
abbrev pub place_of : PlainCommand → ℕ
place_of (add text at) = at
place_of (delete name at) = at
place_of (move name dx dy at) = at
place_of (rules text at) = at
place_of (again at) = at

-- commands as steps, and a refusal as itself
abbrev pub as_steps : Result (List PlainCommand) ScriptError → Result (List PlainStep) ScriptError
as_steps (Ok commands) = Ok (map (λ command. edit command) commands)
as_steps (Err e) = Err e

-- ---- as the code has them

abbrev pub plain_command : Command → PlainCommand
plain_command (Add text at) = add text.now at
plain_command (Delete name at) = delete name at
plain_command (Move name dx dy at) = move name dx dy at
plain_command (Rules text at) = rules text.now at
plain_command (Again at) = again at

abbrev pub plain_step : Step → PlainStep
plain_step (Edit command) = edit (plain_command command)
plain_step (Undo at) = undo at
plain_step (Redo at) = redo at
