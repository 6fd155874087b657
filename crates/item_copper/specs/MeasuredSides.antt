-- A side: some parts of an item, which face some parts of another.
use Rattle.std.specs.Prelude.{ℕ, Bool, true, List, [], ◌∷◌, Option, None, Some}
use Rattle.one_item.specs.declared.parts.Part.{Part}
use Rattle.copper_layers.specs.Layers.{has_layer}
use Rattle.one_item.specs.CopperPairs.{on_layer}
use Rattle.item_copper.specs.declared.side.SomeParts.{SomeParts}
use Rattle.item_copper.specs.declared.side.SomeParts.TheVariants.{Nothing, Listed, Single}

-- whether a part is taken: each, or one that lies on the layer
abbrev pub is_taken : Option ℕ → Part → Bool
is_taken None part = true
is_taken (Some layer) part = has_layer part.layers layer

-- what is taken of a list: all, or what lies on the layer
abbrev pub taken : Option ℕ → List Part → List Part
taken None parts = parts
taken (Some layer) parts = on_layer layer parts

-- the parts of a side
abbrev pub parts_at : SomeParts → List Part
parts_at Nothing = []
parts_at (Listed listed) = taken listed.layer listed.parts.now
parts_at (Single single) = record { layers = single.layers; shape = single.shape.now } ∷ []
