use Rattle.std.proofs.Common.{◌≡◌, ◌++◌}
use Rattle.made_board.specs.MadeBoard.{net_lines}
use Rattle.made_board.proofs.made.push_nets.Given as goal

abbrev pub invariant-loop-others : goal.invariant-loop-others
invariant-loop-others l = l.text.items ≡ l.initial.text.items ++ net_lines l.others
