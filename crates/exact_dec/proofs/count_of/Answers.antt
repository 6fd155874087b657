use Rattle.std.proofs.Common.{arith}
use Rattle.std.proofs.lemmas.Bool.Decides.{nat_tests}
use Rattle.exact_dec.specs.Computed.{count_answer}
use Rattle.exact_dec.proofs.Laws.{count_law}
use Rattle.exact_dec.proofs.count_of.Goals as goal

pub returns-then-not-is_all_digits-clause-computed : goal.returns-then-not-is_all_digits-clause-computed
unfolding count_answer
returns-then-not-is_all_digits-clause-computed c = grind (arith, nat_tests)

pub returns-then-not-is_all_digits-clause-reads : goal.returns-then-not-is_all_digits-clause-reads
returns-then-not-is_all_digits-clause-reads c = count_law c.args.text.now _ (returns-then-not-is_all_digits-clause-computed c)

pub returns-then-count-from-clause-computed : goal.returns-then-count-from-clause-computed
unfolding count_answer
returns-then-count-from-clause-computed c = grind (arith, nat_tests)

pub returns-then-count-from-clause-reads : goal.returns-then-count-from-clause-reads
returns-then-count-from-clause-reads c = count_law c.args.text.now _ (returns-then-count-from-clause-computed c)

pub returns-clause-computed : goal.returns-clause-computed
unfolding count_answer
returns-clause-computed c = grind (arith, nat_tests)

pub returns-clause-reads : goal.returns-clause-reads
returns-clause-reads c = count_law c.args.text.now _ (returns-clause-computed c)
