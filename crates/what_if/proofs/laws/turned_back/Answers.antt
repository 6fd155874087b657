use Rattle.what_if.proofs.WayBack as here
use Rattle.what_if.proofs.laws.turned_back.Goals as goal

pub returns : goal.returns
returns c = here.turned_back c.one_state.ensures
