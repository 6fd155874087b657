use Rattle.one_item.proofs.MovedApart as moves
use Rattle.one_item.proofs.laws.moved_by_nothing.Goals as goal

pub returns : goal.returns
returns c = moves.moved_by_nothing
