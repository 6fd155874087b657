-- One primitive of a pad after another.
use Rattle.std.specs.Prelude.{◌≡◌, ◌⊎◌, List, ◌∷◌, Result, Ok, Err}
use Rattle.sexpr_read.specs.Tree.{Tree}
use Rattle.board_errors.specs.declared.errors.BoardError.{BoardError}
use Rattle.board_errors.specs.declared.errors.BoardError.TheVariants.{OutOfMemory}
use Rattle.part_read.specs.declared.figures.Drawing.{Drawing}
use Rattle.part_read.specs.Lists.{before}
use Rattle.pad_read.specs.CustomPads.{primitives_among}

-- the drawings so far, and those that this part and what follows give, are the new ones and those of what follows; or the part is refused
abbrev pub TakesPrimitive : Result (Unit {0}) BoardError → Tree → Tree → List Drawing → List Drawing → Type 0
TakesPrimitive (Ok _) pad t old new = (rest : List Tree) → before old (primitives_among pad (t ∷ rest)) ≡ before new (primitives_among pad rest)
TakesPrimitive (Err e) pad t old new = (e ≡ OutOfMemory) ⊎ ((rest : List Tree) → primitives_among pad (t ∷ rest) ≡ Err e)
