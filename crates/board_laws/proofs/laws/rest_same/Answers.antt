use Rattle.board_laws.proofs.Rest as rest
use Rattle.board_laws.proofs.laws.rest_same.Goals as goal

pub returns : goal.returns
returns c = rest.rest_same
