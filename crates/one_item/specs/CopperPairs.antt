-- The copper of two items on one layer. Lengths of shapes count half nanometres, since widths are halved; distances to
-- be kept count nanometres.
use Rattle.std.specs.Prelude.{◌≡◌, ℕ, ℤ, pos, ◌*ℤ◌, List, IsTrue, ◌⊎◌, filter, All}
use Rattle.std.specs.List.{Any}
use Rattle.geo_seg.specs.Distances.{Apart, Meet}
use Rattle.one_item.specs.declared.parts.Part.{Part}
use Rattle.one_item.specs.declared.item.Item.{Item}
use Rattle.copper_layers.specs.Layers.{has_layer}

-- the parts that lie on the layer
abbrev pub on_layer : ℕ → List Part → List Part
on_layer layer parts = filter (λ part. has_layer part.layers layer) parts

-- some part of the one list and some part of the other touch or overlap
pub record SomeMeet (parts others : List Part) : Type 0 where
  pub some : Any (λ part. Any (λ other. Meet part.shape other.shape) others) parts

-- no part of the one list and part of the other are nearer to each other than v nanometres
pub record PartsAreApart (parts others : List Part) (v : ℤ) : Type 0 where
  pub each : All (λ part. All (λ other. Apart part.shape other.shape (pos 2 *ℤ v)) others) parts

-- the two lists keep the distance v; nothing has to be kept where it is 0
abbrev pub Keeps : List Part → List Part → ℤ → Type 0
Keeps parts others v = (v ≡ pos 0) ⊎ PartsAreApart parts others v

-- the copper of the two items meets on the layer
abbrev pub MeetOn : ℕ → Item → Item → Type 0
MeetOn layer a b = SomeMeet (on_layer layer a.copper) (on_layer layer b.copper)

-- the copper of the two items keeps the distance v on the layer
abbrev pub KeepOn : ℕ → Item → Item → ℤ → Type 0
KeepOn layer a b v = Keeps (on_layer layer a.copper) (on_layer layer b.copper) v

-- ---- on any layer
-- the two parts lie on a layer together and meet
pub record PartsMeet (part other : Part) : Type 0 where
  pub layer : ℕ
  pub first : IsTrue (has_layer part.layers layer)
  pub second : IsTrue (has_layer other.layers layer)
  pub meet : Meet part.shape other.shape

-- the copper of the two items touches or overlaps on some layer
pub record CopperMeets (a b : Item) : Type 0 where
  pub layer : ℕ
  pub meet : MeetOn layer a b
