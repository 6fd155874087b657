use Rattle.drc_state.proofs.OneRecheck as here
use Rattle.drc_state.proofs.laws.one_list_held.Goals as goal

pub returns-clause-reach : goal.returns-clause-reach
returns-clause-reach c = here.one_reach

pub returns-clause-tiles : goal.returns-clause-tiles
returns-clause-tiles c = here.one_list_held c.one_list_of_tiles.ensures
