use Rattle.std.proofs.Common.{◌≡◌, ◌<◌, ◌+◌, ◌*◌, ◌^◌, length, drop}
use Rattle.exact_dec.specs.Decimal.{number}
use Rattle.exact_dec.proofs.whole_number.Given as goal

-- the number so far, with the digits that are left behind it, is the number wanted
abbrev pub invariant-loop-digit : goal.invariant-loop-digit
invariant-loop-digit l = record {
  small : l.n < 10 ^ l.digit-index;
  rest : l.n * 10 ^ length (drop l.digit-index l.digits) + number (drop l.digit-index l.digits) ≡ number l.digits;
}
