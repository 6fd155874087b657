use Rattle.ratsnest.proofs.Near.{halves_back}
use Rattle.ratsnest.proofs.nearest.nearer_first.Goals as goal

pub returns-then-square_of_part : goal.returns-then-square_of_part
returns-then-square_of_part c = halves_back c.args.part c.halves_of-halves.result.left c.halves_of-halves.result.right c.halves_of-halves.ensures
