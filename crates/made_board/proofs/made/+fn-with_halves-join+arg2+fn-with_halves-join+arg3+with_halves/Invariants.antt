use Rattle.std.proofs.Common.{◌-◌, ◌*◌}
use Rattle.made_board.proofs.made.+fn-with_halves-join+arg2+fn-with_halves-join+arg3+with_halves.Given as goal

abbrev pub decreases-join+arg2 : goal.decreases-join+arg2
decreases-join+arg2 g l = 2 * l.halvings - 1

abbrev pub decreases-join+arg3 : goal.decreases-join+arg3
decreases-join+arg3 g l = 2 * l.halvings - 1

abbrev pub decreases-with_halves : goal.decreases-with_halves
decreases-with_halves g l = 2 * l.halvings
