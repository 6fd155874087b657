use Rattle.std.proofs.Common.{length}
use Rattle.row_check.specs.EntryWalks.{IsEndOf}
use Rattle.row_check.proofs.tile.owned_from.Given as goal

abbrev pub invariant-walk : goal.invariant-walk
invariant-walk l = IsEndOf l.at.index.now l.at.tile l.first l.others l.left

abbrev pub decreases-walk : goal.decreases-walk
decreases-walk l = length l.left
