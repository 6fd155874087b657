use Rattle.std.proofs.Common.{arith}
use Rattle.exact_dec.proofs.Digits.{digit_at, push_more, above_push}
use Rattle.exact_dec.proofs.scale.push_digits.Goals as goal

pub overflow_sub-digit : goal.overflow_sub-digit
overflow_sub-digit c = (digit_at c.args.digits.now c.loop-digit.digit-index c.requires.digits (omega arith)).0

pub returns-then-n-gt-MOST_WHOLE : goal.returns-then-n-gt-MOST_WHOLE
returns-then-n-gt-MOST_WHOLE c =
    let more = push_more c.loop-digit.n _ c.args.digits.now c.loop-digit.digit-index (omega arith) c.loop-digit.invariant.rest in
    let above = above_push _ _ _ _ more in
    omega arith

pub loop-digit-preserved : goal.loop-digit-preserved
loop-digit-preserved c = record {
  most = omega arith;
  rest = rw c.from.ensures (push_more c.loop-digit.n _ c.args.digits.now c.loop-digit.digit-index (omega arith) c.loop-digit.invariant.rest);
}
