-- The net of an item.
use Rattle.std.specs.Prelude.{ℕ, codes, is_some, Result, Ok, Err, if◌then◌else◌}
use Rattle.sexpr_read.specs.Tree.{Tree}
use Rattle.board_errors.specs.declared.errors.BoardError.{BoardError}
use Rattle.board_errors.specs.declared.errors.BoardError.TheVariants.{UnknownNet}
use Rattle.board_items.specs.Boards.{PlainBoard, name_of}
use Rattle.list_read.specs.FirstRefusals.{◌>>=◌}
use Rattle.list_read.specs.ListHeads.{place}
use Rattle.list_read.specs.NamedElements.{element}
use Rattle.part_read.specs.ElementResults.{given_or, atom_of}
use Rattle.part_read.specs.BoardNumbers.{number_in}

-- the number in (net NUMBER), which was declared before
unfoldable pub declared_in : PlainBoard → Tree → Result ℕ BoardError
declared_in board list = do
  atom ← atom_of 1 list
  number ← number_in atom
  if is_some (name_of board number) then Ok number else Err (UnknownNet (place atom))

-- the net of the element, or 0, which is none
abbrev pub net_of : PlainBoard → Tree → Result ℕ BoardError
net_of board tree = given_or 0 (declared_in board) (element (codes "net") tree)
