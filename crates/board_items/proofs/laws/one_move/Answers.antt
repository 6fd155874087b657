use Rattle.board_items.proofs.OneMove as moves
use Rattle.board_items.proofs.laws.one_move.Goals as goal

pub returns : goal.returns
returns c = moves.one_move
