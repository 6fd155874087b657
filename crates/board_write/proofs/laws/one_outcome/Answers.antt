use Rattle.board_write.proofs.OneOutcome as once
use Rattle.board_write.proofs.laws.one_outcome.Goals as goal

pub returns : goal.returns
returns c = once.one_outcome c.one_tree.ensures.one c.one_tree.ensures.forms c.one_reading.ensures c.one_operation.ensures c.one_board.ensures
