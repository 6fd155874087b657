use Rattle.board_items.proofs.Resting as moves
use Rattle.board_items.proofs.laws.moved_nowhere.Goals as goal

pub returns : goal.returns
returns c = moves.moved_nowhere
