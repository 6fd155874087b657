-- The refusal of a text has its place in a text that is not too long to be read, or none.
use Rattle.std.specs.Prelude.{IfSome}
use Rattle.plain_types.specs.Limits.{IsInText}
use Rattle.sexpr_read.specs.declared.place.TextError.{TextError}
use Rattle.sexpr_read.specs.TreeReasons.{text_reason}

abbrev pub IsNearText : TextError → Type 0
IsNearText e = IfSome (text_reason e).place IsInText
