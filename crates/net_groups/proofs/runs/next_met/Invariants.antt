use Rattle.std.proofs.Common.{◌-◌, length}
use Rattle.net_groups.proofs.ItemBoxRuns.{ArePassed}
use Rattle.net_groups.proofs.runs.next_met.Given as goal

abbrev pub invariant-places : goal.invariant-places
invariant-places l = ArePassed l.item_boxes l.own l.from l.place

abbrev pub decreases-places : goal.decreases-places
decreases-places l = length l.item_boxes - l.place
