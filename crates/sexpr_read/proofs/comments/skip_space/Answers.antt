use Rattle.sexpr_read.specs.ByteClasses.{sign_of}
use Rattle.sexpr_read.proofs.Spelled.{gap_with}
use Rattle.sexpr_read.proofs.comments.skip_space.Goals as goal

pub returns-then-one-clause-gap : goal.returns-then-one-clause-gap
returns-then-one-clause-gap c = rw c.if-one.true (gap_with (sign_of c.args.text.now) c.args.at _ c.requires.space c.gap_end.ensures.gap)
