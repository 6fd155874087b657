-- What the text of a board says, which is one list: the board of its tree, or why there is none.
use Rattle.std.specs.Prelude.{ℕ, List, Result}
use Rattle.board_errors.specs.declared.errors.BoardError.{BoardError}
use Rattle.board_errors.specs.declared.errors.BoardError.TheVariants.{Text}
use Rattle.board_items.specs.Boards.{PlainBoard}
use Rattle.list_read.specs.TextResults.{OfList}
use Rattle.pcb_read.specs.BoardOf.{SaysBoard}

abbrev pub BoardSays : List ℕ → Result PlainBoard BoardError → Type 0
BoardSays text answer = OfList Text SaysBoard text answer
