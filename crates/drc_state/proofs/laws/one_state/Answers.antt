use Rattle.drc_state.proofs.OneAnswer as here
use Rattle.drc_state.proofs.laws.one_state.Goals as goal

pub returns : goal.returns
returns c = here.one_state c.one_board.ensures
