use Rattle.pcb_read.proofs.OneReading.{one_board}
use Rattle.pcb_read.proofs.laws.one_reading.Goals as goal

pub returns : goal.returns
returns c = one_board c.one_tree.ensures.one
