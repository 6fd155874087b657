use Rattle.board_write.proofs.Standing.{held}
use Rattle.board_write.proofs.marks.note_move.Goals as goal

pub returns-clause-held : goal.returns-clause-held
returns-clause-held c = (held c.args.dx c.ranges.dx, held c.args.dy c.ranges.dy)
