use Rattle.ratsnest.proofs.IndexedAnchors.{longer_is_more}
use Rattle.ratsnest.proofs.indexed_anchor.is_farther.Goals as goal

pub returns : goal.returns
returns c = λ yes. longer_is_more c.args.best c.args.from.now c.args.to.now c.square.result c.square.ensures (c.is_below.ensures yes)
