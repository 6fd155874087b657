use Rattle.std.proofs.Common.{arith}
use Rattle.std.proofs.lemmas.Grind.{common_steps}
use Rattle.exact_dec.specs.Computed.{parts_of}
use Rattle.exact_dec.proofs.Grammar.{parts_digits}
use Rattle.exact_dec.proofs.parts.take_apart.Goals as goal

pub returns-clause-parts : goal.returns-clause-parts
unfolding parts_of
returns-clause-parts c = grind (arith, common_steps)

pub returns-clause-digits : goal.returns-clause-digits
returns-clause-digits c = parts_digits c.args.text.now _ (returns-clause-parts c)

pub returns-in_err-lowers : goal.returns-in_err-lowers
unfolding parts_of
returns-in_err-lowers c = grind (arith, common_steps)

pub returns-then-is_empty-2 : goal.returns-then-is_empty-2
unfolding parts_of
returns-then-is_empty-2 c = grind (arith, common_steps)
