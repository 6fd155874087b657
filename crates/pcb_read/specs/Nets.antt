-- The list of nets at the root.
use Rattle.std.specs.Prelude.{Result, Ok}
use Rattle.sexpr_read.specs.Tree.{Tree}
use Rattle.board_errors.specs.declared.errors.BoardError.{BoardError}
use Rattle.board_items.specs.Boards.{PlainBoard, with_net}
use Rattle.list_read.specs.FirstRefusals.{◌>>=◌}
use Rattle.list_read.specs.ListHeads.{text_of}
use Rattle.part_read.specs.ElementResults.{atom_of}
use Rattle.part_read.specs.BoardNumbers.{number_in}

-- (net NUMBER NAME)
unfoldable pub with_net_of : PlainBoard → Tree → Result PlainBoard BoardError
with_net_of board tree = do
  first ← atom_of 1 tree
  number ← number_in first
  second ← atom_of 2 tree
  Ok (with_net board number (text_of second))
