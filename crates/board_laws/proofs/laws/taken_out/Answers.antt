use Rattle.board_laws.proofs.Operations as operations
use Rattle.board_laws.proofs.laws.taken_out.Goals as goal

pub returns : goal.returns
returns c = operations.taken_out
