use Rattle.std.proofs.Common.{arith}
use Rattle.exact_dec.proofs.Digits.{digit_at, push_more, pow10_suc}
use Rattle.exact_dec.proofs.whole_number.Goals as goal

pub overflow_sub-digit : goal.overflow_sub-digit
overflow_sub-digit c = (digit_at c.args.digits.now c.loop-digit.digit-index c.requires.digits (omega arith)).0

pub loop-digit-preserved : goal.loop-digit-preserved
loop-digit-preserved c =
    let digit = digit_at c.args.digits.now c.loop-digit.digit-index c.requires.digits (omega arith) in
    record {
      small = omega (arith, pow10_suc c.loop-digit.digit-index, digit.1, c.from.ensures);
      rest = rw c.from.ensures (push_more c.loop-digit.n _ c.args.digits.now c.loop-digit.digit-index (omega arith) c.loop-digit.invariant.rest);
    }
