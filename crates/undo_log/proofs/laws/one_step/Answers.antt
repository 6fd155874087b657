use Rattle.undo_log.proofs.Answers as here
use Rattle.undo_log.proofs.laws.one_step.Goals as goal

pub returns : goal.returns
returns c = here.one_step c.one_answer.ensures
