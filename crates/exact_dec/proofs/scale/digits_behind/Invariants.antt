use Rattle.std.proofs.Common.{◌≤◌, ◌+◌, ◌*◌, ◌^◌, ℕ, length, drop}
use Rattle.exact_dec.specs.Decimal.{number}
use Rattle.exact_dec.specs.Spelled.{IsQuotient}
use Rattle.exact_dec.proofs.scale.digits_behind.Given as goal

-- the digits from `at` on are done
abbrev pub invariant-loop-at : goal.invariant-loop-at
invariant-loop-at l = record {
  in_range : l.at ≤ length l.digits;
  below : l.quotient.whole ≤ l.unit;
  divides : (n s : ℕ) → IsQuotient n (10 ^ s) l.fn.behind.whole l.fn.behind.exact → IsQuotient (l.unit * number (drop l.at l.digits) * 10 ^ s + n) (10 ^ (length (drop l.at l.digits) + s)) l.quotient.whole l.quotient.exact;
}

abbrev pub decreases-loop-at : goal.decreases-loop-at
decreases-loop-at l = l.at
