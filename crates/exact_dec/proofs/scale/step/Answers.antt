use Rattle.exact_dec.proofs.Digits.{quotient_step, and_true, and_false}
use Rattle.exact_dec.proofs.scale.step.Goals as goal

pub returns-then-behind-clause-divides : goal.returns-then-behind-clause-divides
returns-then-behind-clause-divides c = λ n d h. quotient_step _ n d _ _ _ h (and_true _ _ c.if-behind.true)

pub returns-else-behind-clause-divides : goal.returns-else-behind-clause-divides
returns-else-behind-clause-divides c = λ n d h. quotient_step _ n d _ _ _ h (and_false _ _ c.if-behind.false)
