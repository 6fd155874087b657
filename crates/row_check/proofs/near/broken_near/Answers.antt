use Rattle.row_check.proofs.NearPairs as pairs
use Rattle.row_check.proofs.near.broken_near.Goals as goal

pub returns : goal.returns
returns c = pairs.broken_near
