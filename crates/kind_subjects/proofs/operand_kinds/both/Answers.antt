use Rattle.kind_subjects.proofs.Unfaced.{in_both}
use Rattle.kind_subjects.proofs.operand_kinds.both.Goals as goal

pub returns : goal.returns
returns c = λ layer h k. in_both c.args.a.bits c.args.b.bits layer h k
