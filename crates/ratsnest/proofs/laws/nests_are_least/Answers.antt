use Rattle.ratsnest.proofs.Whole.{nest_least}
use Rattle.ratsnest.proofs.laws.nests_are_least.Goals as goal

pub returns : goal.returns
returns c = nest_least
