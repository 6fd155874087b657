use Rattle.drc_state.proofs.FoundTiles as here
use Rattle.drc_state.proofs.laws.near_tiles.Goals as goal

pub returns : goal.returns
returns c = here.near_tiles
