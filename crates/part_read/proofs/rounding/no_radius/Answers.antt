use Rattle.std.proofs.Common.{refl}
use Rattle.part_read.specs.Figures.{no_radius}
use Rattle.part_read.proofs.Boxing.{one_radius}
use Rattle.part_read.proofs.rounding.no_radius.Goals as goal

pub returns : goal.returns
returns c = one_radius _ no_radius refl
