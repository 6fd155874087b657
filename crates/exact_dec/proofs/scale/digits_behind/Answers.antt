use Rattle.std.proofs.Common.{arith, ◌-◌}
use Rattle.exact_dec.proofs.Digits.{digit_at, behind_at}
use Rattle.exact_dec.proofs.scale.digits_behind.Goals as goal

pub overflow_sub-digits : goal.overflow_sub-digits
overflow_sub-digits c = (digit_at c.args.digits.now (c.loop-at.at - 1) c.requires.digits (omega arith)).0

pub step-quotient-requires-clause-digit : goal.step-quotient-requires-clause-digit
step-quotient-requires-clause-digit c =
    let small = digit_at c.args.digits.now (c.loop-at.at - 1) c.requires.digits (omega arith) in
    omega arith

pub loop-at-preserved : goal.loop-at-preserved
loop-at-preserved c = record {
  in_range = omega arith;
  below = c.step-quotient.ensures.below;
  divides = λ n s h.
      behind_at c.args.unit n s (c.loop-at.at - 1) c.loop-at.at _ _ _ c.args.digits.now (omega arith) (omega arith) c.from.ensures (c.step-quotient.ensures.divides _ _ (c.loop-at.invariant.divides n s h));
}
