-- Why items and boards are refused: what each refusal is called, its number, and its place in the text. A refusal of the text
-- is the first of those of a board, and stands behind it.
use Rattle.std.specs.Prelude.{codes}
use Rattle.plain_types.specs.Reasons.{PlainReason, refused_at, refused_nowhere, carried}
use Rattle.sexpr_read.specs.TreeReasons.{text_reason}
use Rattle.board_errors.specs.declared.errors.ItemError.{ItemError}
use Rattle.board_errors.specs.declared.errors.ItemError.TheVariants.{OutOfBoard as ItemOutOfBoard, UnknownNet as ItemUnknownNet, UnknownLayer as ItemUnknownLayer, TooMany as ItemTooMany, OutOfMemory as ItemOutOfMemory}
use Rattle.board_errors.specs.declared.errors.BoardError.{BoardError}
use Rattle.board_errors.specs.declared.errors.BoardError.TheVariants.{Text, NotABoard, Version, Missing, BadNumber, OutOfBoard, Arc, Turned, PadShape, Ring, UnknownNet, UnknownLayer, ThickFill, TooMany, OutOfMemory}

-- an item that is not taken stands in no text; running out of memory has no number, which is written 0
abbrev pub item_reason : ItemError → PlainReason
item_reason ItemOutOfBoard = refused_nowhere (codes "OutOfBoard") 1
item_reason ItemUnknownNet = refused_nowhere (codes "UnknownNet") 2
item_reason ItemUnknownLayer = refused_nowhere (codes "UnknownLayer") 3
item_reason ItemTooMany = refused_nowhere (codes "TooMany") 4
item_reason ItemOutOfMemory = refused_nowhere (codes "OutOfMemory") 0

-- running out of memory has no number, which is written 0, and no place
abbrev pub board_reason : BoardError → PlainReason
board_reason (Text e) = carried (codes "Text") 1 (text_reason e)
board_reason (NotABoard at) = refused_at (codes "NotABoard") 2 at
board_reason (Version at) = refused_at (codes "Version") 3 at
board_reason (Missing at) = refused_at (codes "Missing") 4 at
board_reason (BadNumber at) = refused_at (codes "BadNumber") 5 at
board_reason (OutOfBoard at) = refused_at (codes "OutOfBoard") 6 at
board_reason (Arc at) = refused_at (codes "Arc") 7 at
board_reason (Turned at) = refused_at (codes "Turned") 8 at
board_reason (PadShape at) = refused_at (codes "PadShape") 9 at
board_reason (Ring at) = refused_at (codes "Ring") 10 at
board_reason (UnknownNet at) = refused_at (codes "UnknownNet") 11 at
board_reason (UnknownLayer at) = refused_at (codes "UnknownLayer") 12 at
board_reason (ThickFill at) = refused_at (codes "ThickFill") 13 at
board_reason (TooMany at) = refused_at (codes "TooMany") 14 at
board_reason OutOfMemory = refused_nowhere (codes "OutOfMemory") 0
