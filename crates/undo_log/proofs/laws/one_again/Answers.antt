use Rattle.undo_log.proofs.Answers as here
use Rattle.undo_log.proofs.laws.one_again.Goals as goal

pub returns : goal.returns
returns c = here.one_again
