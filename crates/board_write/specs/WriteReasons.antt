-- Why a board is not written: what each refusal is called, its number, and its place. A refusal of the board stands behind
-- that of the writing.
use Rattle.std.specs.Prelude.{codes}
use Rattle.plain_types.specs.Reasons.{PlainReason, refused_nowhere, carried}
use Rattle.board_errors.specs.BoardReasons.{board_reason}
use Rattle.board_write.specs.declared.error.WriteError.{WriteError}
use Rattle.board_write.specs.declared.error.WriteError.TheVariants.{Board, Failed, OutOfMemory}

-- only refusals of the board have places; running out of memory has no number, which is written 0
abbrev pub write_reason : WriteError → PlainReason
write_reason (Board e) = carried (codes "Board") 21 (board_reason e)
write_reason Failed = refused_nowhere (codes "Failed") 22
write_reason OutOfMemory = refused_nowhere (codes "OutOfMemory") 0
