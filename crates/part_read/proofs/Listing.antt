-- What the parts of a list of layers give, case by case.
use Rattle.std.proofs.Common.{◌≡◌, refl, ℕ, [], ◌∷◌, None, Some, Ok, true, false}
use Rattle.sexpr_read.specs.Tree.{Tree, is_list}
use Rattle.copper_layers.specs.declared.set.LayerSet.{LayerSet}
use Rattle.copper_layers.specs.Layers.{single_layer}
use Rattle.part_read.specs.ElementResults.{atom_of}
use Rattle.part_read.specs.BoardLayers.{layer_number, listed, layer_in, is_all_copper, is_outer, outer_of, named}

pub listed_passed : (part : Tree) → is_list part ≡ false → listed part ≡ Ok []
unfolding listed
listed_passed part h = rw h refl

pub listed_none : (part name : Tree) → is_list part ≡ true → Ok name ≡ atom_of 1 part → None ≡ layer_number name → listed part ≡ Ok []
unfolding listed
listed_none part name h atom none = rw (h, ← atom, ← none) refl

pub listed_some : (part name : Tree) (layer : ℕ) → is_list part ≡ true → Ok name ≡ atom_of 1 part → Some layer ≡ layer_number name → listed part ≡ Ok (single_layer layer ∷ [])
unfolding listed
listed_some part name layer h atom some = rw (h, ← atom, ← some) refl

pub named_passed : (copper : LayerSet) (part : Tree) → is_list part ≡ true → named copper part ≡ Ok []
unfolding named
named_passed copper part h = rw h refl

pub named_all : (copper : LayerSet) (part : Tree) → is_list part ≡ false → is_all_copper part ≡ true → named copper part ≡ Ok (copper ∷ [])
unfolding named
named_all copper part h k = rw (h, k) refl

pub named_outer : (copper : LayerSet) (part : Tree) → is_list part ≡ false → is_all_copper part ≡ false → is_outer part ≡ true → named copper part ≡ Ok (outer_of copper)
unfolding named
named_outer copper part h k l = rw (h, k, l) refl

pub named_none : (copper : LayerSet) (part : Tree) → is_list part ≡ false → is_all_copper part ≡ false → is_outer part ≡ false → Ok None ≡ layer_in copper part → named copper part ≡ Ok []
unfolding named
named_none copper part h k l none = rw (h, k, l, ← none) refl

pub named_some : (copper : LayerSet) (part : Tree) (layer : ℕ) → is_list part ≡ false → is_all_copper part ≡ false → is_outer part ≡ false → Ok (Some layer) ≡ layer_in copper part
    → named copper part ≡ Ok (single_layer layer ∷ [])
unfolding named
named_some copper part layer h k l some = rw (h, k, l, ← some) refl
