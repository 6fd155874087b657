use Rattle.std.proofs.Common.{◌≡◌, drop}
use Rattle.std.specs.Str.{all_ascii_digits}
use Rattle.exact_dec.proofs.parts.is_all_digits.Given as goal

-- whether all are digits hangs on the rest alone
abbrev pub invariant-loop-byte : goal.invariant-loop-byte
invariant-loop-byte l = all_ascii_digits l.text ≡ all_ascii_digits (drop l.byte-index l.text)
