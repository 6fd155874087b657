-- The layers on which a kind is tried, in their order: the copper layers of the board from front to back, then the courtyards of the
-- front and of the back, then none. The first on which something is broken is that of the row.
use Rattle.std.specs.Prelude.{ℕ, ◌<◌, IsTrue, Option, None, Some}
use Rattle.copper_layers.specs.declared.set.LayerSet.{LayerSet}
use Rattle.copper_layers.specs.Layers.{has_layer}
use Rattle.kind_subjects.specs.declared.layer.RowLayer.{RowLayer}
use Rattle.kind_subjects.specs.declared.layer.RowLayer.TheVariants.{Copper, FrontYard, BackYard, Nowhere}

-- the place in that order
abbrev pub rank : RowLayer → ℕ
rank (Copper layer) = layer
rank FrontYard = 32
rank BackYard = 33
rank Nowhere = 34

-- the layer is one of the copper layers of the board, of which there are at most 32
pub record IsAmong (copper : LayerSet) (layer : ℕ) : Type 0 where
  pub below : layer < 32
  pub has : IsTrue (has_layer copper layer)

-- the board has the layer; courtyards, and none, are always there
abbrev pub IsTried : LayerSet → RowLayer → Type 0
IsTried copper (Copper layer) = IsAmong copper layer
IsTried copper _ = Unit {0}

-- the first of them of which P holds
pub record IsFirst (copper : LayerSet) (P : RowLayer → Type 0) (layer : RowLayer) : Type 0 where
  pub tried : IsTried copper layer
  pub holds : P layer
  pub none_before : (earlier : RowLayer) → rank earlier < rank layer → IsTried copper earlier → ¬ (P earlier)

-- P holds of one of them
pub record HoldsSomewhere (copper : LayerSet) (P : RowLayer → Type 0) : Type 0 where
  pub layer : RowLayer
  pub tried : IsTried copper layer
  pub holds : P layer

-- P holds on none of the layers
pub record HoldsNowhere (copper : LayerSet) (P : RowLayer → Type 0) : Type 0 where
  pub none : (layer : RowLayer) → IsTried copper layer → ¬ (P layer)

-- which copper layer rules are asked for: courtyards are asked for as F.Cu and B.Cu
abbrev pub asked_layer : RowLayer → Option ℕ
asked_layer (Copper layer) = Some layer
asked_layer FrontYard = Some 0
asked_layer BackYard = Some 31
asked_layer Nowhere = None
