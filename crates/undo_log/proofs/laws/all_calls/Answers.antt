use Rattle.undo_log.proofs.Calls as here
use Rattle.undo_log.proofs.laws.all_calls.Goals as goal

pub returns : goal.returns
returns c = here.all_calls
