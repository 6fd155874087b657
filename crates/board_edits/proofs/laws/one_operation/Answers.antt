use Rattle.board_edits.proofs.FoundOperations as found
use Rattle.board_edits.proofs.laws.one_operation.Goals as goal

pub returns : goal.returns
returns c = found.one_operation c.one_list.ensures
