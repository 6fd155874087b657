use Rattle.std.proofs.Common.{◌≡◌, ◌++◌}
use Rattle.made_board.specs.MadeBoard.{item_lines}
use Rattle.made_board.proofs.made.push_items.Given as goal

abbrev pub invariant-loop-others : goal.invariant-loop-others
invariant-loop-others l = l.text.items ≡ l.initial.text.items ++ item_lines l.initial.first l.others
