use Rattle.std.proofs.Common.{◌≡◌, [], replicate}
use Rattle.net_groups.proofs.gather.empty_groups.Given as goal

abbrev pub invariant-loop : goal.invariant-loop
invariant-loop l = l.groups.items ≡ replicate l.counter []
