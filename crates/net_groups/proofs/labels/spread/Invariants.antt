use Rattle.std.proofs.Common.{◌+◌, length}
use Rattle.net_groups.specs.Touching.{TouchOn}
use Rattle.net_groups.specs.Labels.{unlabelled, IsSpread}
use Rattle.net_groups.proofs.labels.spread.Given as goal

abbrev pub invariant-spreading : goal.invariant-spreading
invariant-spreading l = IsSpread (TouchOn l.net.board.now) l.net.ids.now l.fn.labels l.start l.label l.stack.items l.labels

abbrev pub decreases-spreading : goal.decreases-spreading
decreases-spreading l = unlabelled l.labels + length l.stack.items
