use Rattle.copper_layers.proofs.LayerLemmas.{within_layers}
use Rattle.copper_layers.proofs.set.LayerSet.is_within.Goals as goal

pub returns-clause-each : goal.returns-clause-each
returns-clause-each c = within_layers c.args.self c.args.other
