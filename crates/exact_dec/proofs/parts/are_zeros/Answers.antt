use Rattle.std.proofs.Common.{arith}
use Rattle.exact_dec.proofs.Digits.{not_zero}
use Rattle.exact_dec.proofs.parts.are_zeros.Goals as goal

pub returns-then-digit-ne48 : goal.returns-then-digit-ne48
returns-then-digit-ne48 c = omega (arith, c.loop-digit.invariant, not_zero c.args.digits.now c.loop-digit.digit-index c.requires (omega arith) c.if-digit-ne48.true)
