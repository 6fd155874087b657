use Rattle.std.proofs.Common.{◌≤◌, ◌+◌, ◌^◌, ℕ}
use Rattle.exact_dec.specs.Spelled.{IsQuotient}
use Rattle.exact_dec.proofs.scale.zeros_behind.Given as goal

abbrev pub invariant-loop : goal.invariant-loop
invariant-loop l = record {
  below : l.quotient.whole ≤ l.unit;
  divides : (n s : ℕ) → IsQuotient n (10 ^ s) l.fn.behind.whole l.fn.behind.exact → IsQuotient n (10 ^ (l.counter + s)) l.quotient.whole l.quotient.exact;
}
