use Rattle.undo_log.proofs.Ways as here
use Rattle.undo_log.proofs.laws.one_redo.Goals as goal

pub returns : goal.returns
returns c = here.one_redo c.one_state.ensures
