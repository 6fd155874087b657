use Rattle.board_edits.proofs.FoundOperations as found
use Rattle.board_edits.proofs.laws.one_board.Goals as goal

pub returns : goal.returns
returns c = found.one_board c.one_move.ensures
