use Rattle.board_laws.proofs.Operations as operations
use Rattle.board_laws.proofs.laws.moved_back.Goals as goal

pub returns : goal.returns
returns c = operations.moved_back
