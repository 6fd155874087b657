-- What the reader's values stand for.
use Rattle.std.specs.Prelude.{Result}
use Rattle.list_read.specs.FoundNodes.{GivesUnless}
use Rattle.edit_script.specs.declared.error.ScriptError.{ScriptError}
use Rattle.edit_script.specs.declared.error.ScriptError.TheVariants.{OutOfMemory}

-- the call gives a value that stands for this answer, unless memory ran out
abbrev pub Gives : {T A : Type 0} → (T → A) → Result T ScriptError → Result A ScriptError → Type 0
Gives view result answer = GivesUnless OutOfMemory view result answer
