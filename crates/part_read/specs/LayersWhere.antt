-- Sets of copper layers by what is said of each layer.
use Rattle.std.specs.Prelude.{ℕ, zero, suc, Bool, List, if◌then◌else◌}
use Rattle.std.specs.List.{list_any}
use Rattle.copper_layers.specs.declared.set.LayerSet.{LayerSet}
use Rattle.copper_layers.specs.Layers.{has_layer, single_layer, union_of}

-- the layers below this number that pass the test
unfoldable pub layers_below : ℕ → (ℕ → Bool) → LayerSet
layers_below zero test = record { bits = 0 }
layers_below (suc layer) test = if test layer then union_of (layers_below layer test) (single_layer layer) else layers_below layer test

-- the layers that pass the test, of all 32
abbrev pub layers_where : (ℕ → Bool) → LayerSet
layers_where test = layers_below 32 test

-- the layers that some of the sets has
abbrev pub layers_of_any : List LayerSet → LayerSet
layers_of_any sets = layers_where (λ layer. list_any (λ set. has_layer set layer) sets)
