use Rattle.pair_check.proofs.SameRow.{same_is}
use Rattle.pair_check.proofs.laws.one_row.Goals as goal

pub returns : goal.returns
returns c = same_is
