use Rattle.std.proofs.Common.{refl}
use Rattle.int_algebra.proofs.Scalars.{passed_length}
use Rattle.part_read.proofs.Shapes.{one_shape}
use Rattle.part_read.proofs.rounding.around.Goals as goal

pub returns : goal.returns
returns c = one_shape _ _ refl (passed_length c.args.radius.value c.args.radius.from c.args.radius.to)
