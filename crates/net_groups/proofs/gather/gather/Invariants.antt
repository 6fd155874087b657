use Rattle.std.proofs.Common.{take}
use Rattle.net_groups.specs.Labels.{AreGathered}
use Rattle.net_groups.proofs.gather.gather.Given as goal

abbrev pub invariant-loop-place : goal.invariant-loop-place
invariant-loop-place l = AreGathered l.count (take l.place l.labels) (take l.place l.ids) l.groups.items
