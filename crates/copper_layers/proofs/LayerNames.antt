-- The names of copper layers are 32.
use Rattle.std.proofs.Common.{◌≡◌, ℕ, Bool, List, refl, drop, None}
use Rattle.std.specs.List.{position_from}
use Rattle.copper_layers.specs.Layers.{layer_names}

pub none_left : (test : List ℕ → Bool) (n : ℕ) → n ≡ 32 → position_from test n (drop n layer_names) ≡ None
unfolding layer_names
none_left test n e = rw e refl
