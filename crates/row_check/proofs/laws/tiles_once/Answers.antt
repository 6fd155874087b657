use Rattle.row_check.proofs.Batches.{batches_once}
use Rattle.row_check.proofs.laws.tiles_once.Goals as goal

pub returns : goal.returns
returns c = λ checked index sound is tiles changed up batches each. batches_once checked index sound is tiles changed up batches each
