use Rattle.undo_log.proofs.Answers as here
use Rattle.undo_log.proofs.laws.one_past_of_steps.Goals as goal

pub returns : goal.returns
returns c = here.one_past_of_steps c.one_step.ensures
