use Rattle.ratsnest.proofs.Whole as whole
use Rattle.ratsnest.proofs.laws.one_nest.Goals as goal

pub returns : goal.returns
returns c = whole.one_nest
