use Rattle.std.proofs.Common.{◌≡◌, drop}
use Rattle.exact_dec.specs.Decimal.{number}
use Rattle.exact_dec.proofs.parts.are_zeros.Given as goal

-- the digits so far add nothing
abbrev pub invariant-loop-digit : goal.invariant-loop-digit
invariant-loop-digit l = number l.digits ≡ number (drop l.digit-index l.digits)
