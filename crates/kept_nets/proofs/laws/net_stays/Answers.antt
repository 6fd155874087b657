use Rattle.kept_nets.proofs.Stays as stays
use Rattle.kept_nets.proofs.laws.net_stays.Goals as goal

pub returns : goal.returns
returns c = stays.net_stays
