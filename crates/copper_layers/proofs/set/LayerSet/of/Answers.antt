use Rattle.std.proofs.Common.{ℕ, IsTrue, ◌↔◌, sym, subst}
use Rattle.copper_layers.specs.Layers.{has_layer, is_within}
use Rattle.copper_layers.proofs.LayerLemmas.{single_is, single_within}
use Rattle.copper_layers.proofs.set.LayerSet.of.Goals as goal

pub returns-clause-within : goal.returns-clause-within
returns-clause-within c = λ set.
    subst (λ (bits : ℕ). IsTrue (is_within (record { bits = bits }) set) ↔ IsTrue (has_layer set c.args.layer)) (sym (single_is c.args.layer c.requires))
    (single_within c.args.layer set)
