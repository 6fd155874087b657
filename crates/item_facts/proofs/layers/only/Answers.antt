use Rattle.std.proofs.Common.{◌≡◌, sym, subst, IsTrue, ◌↔◌}
use Rattle.copper_layers.specs.declared.set.LayerSet.{LayerSet}
use Rattle.copper_layers.specs.Layers.{has_layer}
use Rattle.item_facts.proofs.OnLayers.{single}
use Rattle.item_facts.proofs.layers.only.Goals as goal

pub returns : goal.returns
returns c = λ other. subst (λ (s : LayerSet). IsTrue (has_layer s other) ↔ (other ≡ c.args.layer)) (sym c.of.ensures.value) (single c.args.layer other)
