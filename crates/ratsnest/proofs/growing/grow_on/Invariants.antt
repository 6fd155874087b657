use Rattle.std.proofs.Common.{◌-◌, length}
use Rattle.ratsnest.specs.NestOf.{group_count}
use Rattle.ratsnest.specs.Grow.{IsGrown}
use Rattle.ratsnest.proofs.growing.grow_on.Given as goal

abbrev pub invariant-grow : goal.invariant-grow
invariant-grow l = IsGrown l.anchors l.reached l.waiting.items l.links.items

abbrev pub decreases-grow : goal.decreases-grow
decreases-grow l = group_count l.anchors - length l.links.items
