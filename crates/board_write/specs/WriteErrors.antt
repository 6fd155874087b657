-- Refusals of boards as those of writing.
use Rattle.board_errors.specs.declared.errors.BoardError.{BoardError}
use Rattle.board_errors.specs.declared.errors.BoardError.TheVariants.{OutOfMemory as NoMemory}
use Rattle.board_write.specs.declared.error.WriteError.{WriteError}
use Rattle.board_write.specs.declared.error.WriteError.TheVariants.{Board, OutOfMemory}

-- running out of memory is one, wherever it was met
abbrev pub write_error : BoardError → WriteError
write_error NoMemory = OutOfMemory
write_error why = Board why
