use Rattle.std.proofs.Common.{◌≡◌, ◌≤◌, ◌+◌, ◌*◌, ◌^◌, length, drop}
use Rattle.exact_dec.specs.Decimal.{number}
use Rattle.exact_dec.proofs.scale.push_digits.Given as goal

-- the number so far, with the digits that are left behind it, is the number wanted
abbrev pub invariant-loop-digit : goal.invariant-loop-digit
invariant-loop-digit l = record {
  most : l.n ≤ 100000000;
  rest : l.n * 10 ^ length (drop l.digit-index l.digits) + number (drop l.digit-index l.digits) ≡ l.before * 10 ^ length l.digits + number l.digits;
}
