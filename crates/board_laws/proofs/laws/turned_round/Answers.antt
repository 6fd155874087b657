use Rattle.board_laws.proofs.Operations as operations
use Rattle.board_laws.proofs.laws.turned_round.Goals as goal

pub returns : goal.returns
returns c = operations.turned_round
