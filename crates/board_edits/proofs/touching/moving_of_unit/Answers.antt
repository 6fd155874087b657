use Rattle.board_edits.proofs.MovingEntries.{moving_ids}
use Rattle.board_edits.proofs.touching.moving_of_unit.Goals as goal

pub returns : goal.returns
returns c = moving_ids c.args.unit c.args.board.now.items _ c.moving_in.result c.of_unit.ensures.items c.moving_in.ensures
