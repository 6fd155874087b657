use Rattle.board_laws.proofs.Operations as operations
use Rattle.board_laws.proofs.laws.put_back.Goals as goal

pub returns : goal.returns
returns c = operations.put_back
