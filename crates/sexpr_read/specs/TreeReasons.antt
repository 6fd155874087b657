-- Why an S-expression is refused: what it is called, its number, and its place in the text.
use Rattle.std.specs.Prelude.{codes}
use Rattle.plain_types.specs.Reasons.{PlainReason, refused_at, refused_nowhere}
use Rattle.sexpr_read.specs.declared.place.TextError.{TextError}
use Rattle.sexpr_read.specs.declared.place.TextError.TheVariants.{NotUtf8, CloseWithoutOpen, EndInside, TooDeep, ExtraText, EmptyText, OutOfMemory}

-- an empty text is refused at its start; running out of memory has no number, which is written 0, and no place
abbrev pub text_reason : TextError → PlainReason
text_reason (NotUtf8 at) = refused_at (codes "NotUtf8") 1 at
text_reason (CloseWithoutOpen at) = refused_at (codes "CloseWithoutOpen") 2 at
text_reason (EndInside at) = refused_at (codes "EndInside") 3 at
text_reason (TooDeep at) = refused_at (codes "TooDeep") 4 at
text_reason (ExtraText at) = refused_at (codes "ExtraText") 5 at
text_reason EmptyText = refused_at (codes "EmptyText") 6 0
text_reason OutOfMemory = refused_nowhere (codes "OutOfMemory") 0
