use Rattle.drc_state.proofs.OneAnswer as here
use Rattle.drc_state.proofs.laws.one_answer.Goals as goal

pub returns : goal.returns
returns c = here.one_answer c.one_board.ensures c.one_operation.ensures c.one_list_reading.ensures
