use Rattle.drc_state.proofs.FoundTiles as here
use Rattle.drc_state.proofs.laws.all_tiles.Goals as goal

pub returns : goal.returns
returns c = here.all_tiles c.tiles_held.ensures.dirty
