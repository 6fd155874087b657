use Rattle.drc_state.proofs.OneRecheck as here
use Rattle.drc_state.proofs.laws.one_recheck.Goals as goal

pub returns : goal.returns
returns c = here.one_recheck c.one_list_held.ensures.tiles
