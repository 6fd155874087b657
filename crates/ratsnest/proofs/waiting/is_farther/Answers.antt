use Rattle.ratsnest.proofs.Waits.{longer_is_more}
use Rattle.ratsnest.proofs.waiting.is_farther.Goals as goal

pub returns : goal.returns
returns c = λ yes. longer_is_more c.args.from.now c.args.held.now c.square.result c.square.ensures (c.is_below.ensures yes)
