use Rattle.item_facts.proofs.OnLayers.{layers_of_copper}
use Rattle.item_facts.proofs.layers.layers_of.Goals as goal

pub returns-in_default : goal.returns-in_default
returns-in_default c = layers_of_copper c.args.item.now c.as_slice.result.now c.union_of.result c.in_default.not-Area c.in_default.not-Body c.as_slice.ensures c.union_of.ensures
