-- A board under the classes of a project alone.
use Rattle.std.specs.Prelude.{[]}
use Rattle.board_items.specs.Boards.{PlainBoard}
use Rattle.net_class.specs.NetClasses.{PlainClasses}
use Rattle.pair_check.specs.Rows.{Checked}

-- what is checked where there are no rules
abbrev pub unruled : PlainBoard → PlainClasses → Checked
unruled board classes = record { board = board; classes = classes; rules = [] }
