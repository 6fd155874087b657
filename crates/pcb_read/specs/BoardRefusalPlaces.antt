-- Refusals whose place stands in a text of at most 33,554,432 bytes.
use Rattle.plain_types.specs.Limits.{IsInText}
use Rattle.board_errors.specs.declared.errors.BoardError.{BoardError}
use Rattle.board_errors.specs.declared.errors.BoardError.TheVariants.{Text, NotABoard, Version, Missing, BadNumber, OutOfBoard, Arc, Turned, PadShape, Ring, UnknownNet, UnknownLayer, ThickFill, TooMany, OutOfMemory}
use Rattle.list_read.specs.RefusalPlaces.{IsNearText}

abbrev pub IsPlacedInText : BoardError → Type 0
IsPlacedInText (Text e) = IsNearText e
IsPlacedInText (NotABoard at) = IsInText at
IsPlacedInText (Version at) = IsInText at
IsPlacedInText (Missing at) = IsInText at
IsPlacedInText (BadNumber at) = IsInText at
IsPlacedInText (OutOfBoard at) = IsInText at
IsPlacedInText (Arc at) = IsInText at
IsPlacedInText (Turned at) = IsInText at
IsPlacedInText (PadShape at) = IsInText at
IsPlacedInText (Ring at) = IsInText at
IsPlacedInText (UnknownNet at) = IsInText at
IsPlacedInText (UnknownLayer at) = IsInText at
IsPlacedInText (ThickFill at) = IsInText at
IsPlacedInText (TooMany at) = IsInText at
IsPlacedInText OutOfMemory = Unit {0}
