use Rattle.board_laws.proofs.Added as added
use Rattle.board_laws.proofs.laws.added.Goals as goal

pub returns : goal.returns
returns c = added.added
