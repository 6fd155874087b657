-- The role of the layer on which a graphic lies: where it is copper, the board has that layer.
use Rattle.std.specs.Prelude.{◌<◌, IsTrue, ⊤}
use Rattle.copper_layers.specs.declared.set.LayerSet.{LayerSet}
use Rattle.copper_layers.specs.Layers.{has_layer}
use Rattle.part_read.specs.declared.graphics.LayerRole.{LayerRole}
use Rattle.part_read.specs.declared.graphics.LayerRole.TheVariants.{Copper}

-- the board has the copper layer on which it lies
abbrev pub HasLayerOfRole : LayerSet → LayerRole → Type 0
HasLayerOfRole copper (Copper layer) = (layer < 32) × IsTrue (has_layer copper layer)
HasLayerOfRole copper lies = ⊤
