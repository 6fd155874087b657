use Rattle.kind_subjects.proofs.LengthRanges.{passed_within}
use Rattle.kind_subjects.proofs.lengths.via_size.Goals as goal

pub returns-in-Via-clause-range : goal.returns-in-Via-clause-range
returns-in-Via-clause-range c = passed_within c.in-Via.size (c.args.item.now.what_in_range.size c.in-Via.size c.in-Via.drill c.in-Via.micro c.in-Via.blind c.in-Via.is)
