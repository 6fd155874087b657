use Rattle.copper_layers.proofs.LayerLemmas.{union_layers}
use Rattle.copper_layers.proofs.set.LayerSet.union.Goals as goal

pub returns-clause-each : goal.returns-clause-each
returns-clause-each c = union_layers c.args.self c.args.other
