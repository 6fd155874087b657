-- No layer before this one has a name that matches.
use Rattle.std.proofs.Common.{◌≡◌, false}
use Rattle.std.proofs.Math.ListN.{drop}
use Rattle.net_class.specs.Wild.{matches}
use Rattle.copper_layers.specs.Layers.{layer_names}
use Rattle.rule_pick.specs.Meaning.{some_layer}
use Rattle.rule_pick.proofs.meaning.some_layer.Given as goal

abbrev pub invariant-loop-layer : goal.invariant-loop-layer
invariant-loop-layer l = some_layer (matches false l.pattern) l.layers 0 layer_names ≡ some_layer (matches false l.pattern) l.layers l.layer (drop l.layer layer_names)
