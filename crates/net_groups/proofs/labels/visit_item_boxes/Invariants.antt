use Rattle.std.proofs.Common.{take, ◌-◌, length}
use Rattle.net_groups.specs.Touching.{TouchOn}
use Rattle.net_groups.specs.Labels.{IsVisited}
use Rattle.net_groups.proofs.labels.visit_item_boxes.Given as goal

abbrev pub invariant-others : goal.invariant-others
invariant-others l = IsVisited (TouchOn l.net.board.now) l.net.ids.now (take l.other l.net.ids.now) l.place l.label l.fn.labels l.labels l.fn.stack.items l.stack.items

abbrev pub decreases-others : goal.decreases-others
decreases-others l = length l.net.ids.now - l.other
