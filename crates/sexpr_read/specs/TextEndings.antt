-- How texts end.
use Rattle.std.specs.Prelude.{ℕ, Bool, ◌||◌, List, [], ◌∷◌, bytes_eq}

-- the text ends in the tail: from some byte on it is the tail, or it ends where the empty tail begins
abbrev pub ends_in : List ℕ → List ℕ → Bool
ends_in tail [] = bytes_eq [] tail
ends_in tail (b ∷ bytes) = bytes_eq (b ∷ bytes) tail || ends_in tail bytes
