use Rattle.std.proofs.Common.{◌≡◌, ◌++◌, drop}
use Rattle.net_groups.proofs.part.copy_groups.Given as goal

abbrev pub invariant-loop-group : goal.invariant-loop-group
invariant-loop-group l = l.groups ≡ l.copy.items ++ drop l.group-index l.groups
