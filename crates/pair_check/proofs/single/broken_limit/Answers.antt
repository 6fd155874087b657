use Rattle.kind_subjects.proofs.LengthRanges.{passed_is_length, length_if}
use Rattle.pair_check.proofs.single.broken_limit.Goals as goal

pub returns-then-counted-n-clause-range : goal.returns-then-counted-n-clause-range
returns-then-counted-n-clause-range c = passed_is_length c.in-Some.most (length_if c.args.picked.most c.in-Some.most c.in-Some.is c.args.picked.most_in_range)
