use Rattle.board_items.proofs.MovedBack as moves
use Rattle.board_items.proofs.laws.moved_back.Goals as goal

pub returns : goal.returns
returns c = moves.moved_back
