-- What the text of a script says: the commands or steps of its tree, or why there are none.
use Rattle.std.specs.Prelude.{◌≡◌, ℕ, List, Result}
use Rattle.list_read.specs.TextResults.{OfForms}
use Rattle.edit_script.specs.declared.error.ScriptError.{ScriptError}
use Rattle.edit_script.specs.declared.error.ScriptError.TheVariants.{Text}
use Rattle.edit_script.specs.Commands.{PlainCommand, PlainStep}
use Rattle.edit_script.specs.CommandsOf.{commands_of, steps_of}

-- the text of a script says this: commands, or a refusal
abbrev pub ScriptSays : List ℕ → Result (List PlainCommand) ScriptError → Type 0
ScriptSays text answer = OfForms Text (λ tree told. told ≡ commands_of text tree) text answer

-- the text of a script with steps says this: steps, or a refusal
abbrev pub SaysSteps : List ℕ → Result (List PlainStep) ScriptError → Type 0
SaysSteps text answer = OfForms Text (λ tree told. told ≡ steps_of text tree) text answer
