use Rattle.exact_dec.proofs.Digits.{behind_zero}
use Rattle.exact_dec.proofs.scale.zeros_behind.Goals as goal

pub loop-preserved : goal.loop-preserved
loop-preserved c = record {
  below = c.step-quotient.ensures.below;
  divides = λ n s h. behind_zero c.args.unit n s c.loop.counter _ _ (c.step-quotient.ensures.divides n _ (c.loop.invariant.divides n s h));
}
