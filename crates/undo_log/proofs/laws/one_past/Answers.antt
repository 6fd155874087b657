use Rattle.undo_log.proofs.Ways as here
use Rattle.undo_log.proofs.laws.one_past.Goals as goal

pub returns : goal.returns
returns c = here.one_past c.one_state.ensures
