-- Why a project is refused: what it is called, its number, and its place in the text.
use Rattle.std.specs.Prelude.{codes}
use Rattle.plain_types.specs.Reasons.{PlainReason, refused_at, refused_nowhere, carried}
use Rattle.json_exact.specs.JsonReasons.{json_reason}
use Rattle.net_class.specs.declared.error.ProjectError.{ProjectError}
use Rattle.net_class.specs.declared.error.ProjectError.TheVariants.{Json, Shape, BadNumber, OutOfMemory}

-- running out of memory has no number, which is written 0, and no place
abbrev pub class_reason : ProjectError → PlainReason
class_reason (Json e) = carried (codes "Json") 1 (json_reason e)
class_reason (Shape at) = refused_at (codes "Shape") 2 at
class_reason (BadNumber at) = refused_at (codes "BadNumber") 3 at
class_reason OutOfMemory = refused_nowhere (codes "OutOfMemory") 0
