use Rattle.std.proofs.Common.{length}
use Rattle.row_check.proofs.BlockLists.{AreBehind}
use Rattle.row_check.proofs.blocks.boxes_of.Given as goal

abbrev pub invariant-walk : goal.invariant-walk
invariant-walk l = AreBehind l.size l.boxes.items l.entries l.left

abbrev pub decreases-walk : goal.decreases-walk
decreases-walk l = length l.left
