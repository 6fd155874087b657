-- Copper layers, and sets of them. A board of KiCad has at most 32: F.Cu, In1.Cu to In30.Cu and B.Cu, numbered from 0 in stack order.
use Rattle.std.specs.Prelude.{ℕ, ◌+◌, ◌-◌, ◌^◌, min, max, ◌==◌, Bool, List, [], ◌∷◌, codes, bit_and, bit_or}
use Rattle.std.specs.Int.{bit_at}
use Rattle.copper_layers.specs.declared.set.LayerSet.{LayerSet}

-- their names, in stack order
unfoldable pub layer_names : List (List ℕ)
layer_names =
    codes "F.Cu" ∷ codes "In1.Cu" ∷ codes "In2.Cu" ∷ codes "In3.Cu" ∷ codes "In4.Cu" ∷ codes "In5.Cu" ∷ codes "In6.Cu" ∷ codes "In7.Cu"
    ∷ codes "In8.Cu" ∷ codes "In9.Cu" ∷ codes "In10.Cu" ∷ codes "In11.Cu" ∷ codes "In12.Cu" ∷ codes "In13.Cu" ∷ codes "In14.Cu" ∷ codes "In15.Cu"
    ∷ codes "In16.Cu" ∷ codes "In17.Cu" ∷ codes "In18.Cu" ∷ codes "In19.Cu" ∷ codes "In20.Cu" ∷ codes "In21.Cu" ∷ codes "In22.Cu" ∷ codes "In23.Cu"
    ∷ codes "In24.Cu" ∷ codes "In25.Cu" ∷ codes "In26.Cu" ∷ codes "In27.Cu" ∷ codes "In28.Cu" ∷ codes "In29.Cu" ∷ codes "In30.Cu" ∷ codes "B.Cu" ∷ []

-- the layer is in the set: its bit is set
abbrev pub has_layer : LayerSet → ℕ → Bool
has_layer s layer = bit_at s.bits layer == 1

-- no layer is in the first set alone: what the two share is the whole of the first
abbrev pub is_within : LayerSet → LayerSet → Bool
is_within s t = bit_and s.bits t.bits == s.bits

-- the set of one layer
abbrev pub single_layer : ℕ → LayerSet
single_layer layer = record { bits = 2 ^ layer }

-- the layers of either set
abbrev pub union_of : LayerSet → LayerSet → LayerSet
union_of s t = record { bits = bit_or s.bits t.bits }

-- the layers of the set from the one to the other, whichever is above
abbrev pub layers_between : LayerSet → ℕ → ℕ → LayerSet
layers_between s a b = record { bits = bit_and s.bits (2 ^ (max a b + 1) - 2 ^ min a b) }
