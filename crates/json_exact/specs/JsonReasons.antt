-- Why a JSON text is refused: what it is called, its number, and its place in the text.
use Rattle.std.specs.Prelude.{codes}
use Rattle.plain_types.specs.Reasons.{PlainReason, refused_at, refused_nowhere}
use Rattle.json_exact.specs.declared.error.JsonError.{JsonError}
use Rattle.json_exact.specs.declared.error.JsonError.TheVariants.{Bad, TooDeep, OutOfMemory}

-- running out of memory has no number, which is written 0, and no place
abbrev pub json_reason : JsonError → PlainReason
json_reason (Bad at) = refused_at (codes "Bad") 1 at
json_reason (TooDeep at) = refused_at (codes "TooDeep") 2 at
json_reason OutOfMemory = refused_nowhere (codes "OutOfMemory") 0
