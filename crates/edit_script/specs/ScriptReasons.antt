-- Why a script is refused: what it is called, its number, and its place in the text.
use Rattle.std.specs.Prelude.{codes}
use Rattle.plain_types.specs.Reasons.{PlainReason, refused_at, refused_nowhere, carried}
use Rattle.sexpr_read.specs.TreeReasons.{text_reason}
use Rattle.edit_script.specs.declared.error.ScriptError.{ScriptError}
use Rattle.edit_script.specs.declared.error.ScriptError.TheVariants.{Text, Bad, OutOfMemory}

-- running out of memory has no number, which is written 0, and no place
abbrev pub script_reason : ScriptError → PlainReason
script_reason (Text e) = carried (codes "Text") 1 (text_reason e)
script_reason (Bad at) = refused_at (codes "Bad") 2 at
script_reason OutOfMemory = refused_nowhere (codes "OutOfMemory") 0
