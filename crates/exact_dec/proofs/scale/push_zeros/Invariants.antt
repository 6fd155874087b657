use Rattle.std.proofs.Common.{◌≡◌, ◌≤◌, ◌*◌, ◌^◌}
use Rattle.exact_dec.proofs.scale.push_zeros.Given as goal

abbrev pub invariant-loop : goal.invariant-loop
invariant-loop l = (l.n ≤ 100000000) × (l.n ≡ l.before * 10 ^ l.counter)
