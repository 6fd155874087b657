-- A set that stands for a list of sets: its layers are theirs.
use Rattle.std.specs.Prelude.{◌≡◌, List, Result, Ok, Err}
use Rattle.board_errors.specs.declared.errors.BoardError.{BoardError}
use Rattle.copper_layers.specs.declared.set.LayerSet.{LayerSet}
use Rattle.part_read.specs.LayersWhere.{layers_of_any}

-- the call gives the layers of the sets, or the refusal
abbrev pub GivesSet : Result LayerSet BoardError → Result (List LayerSet) BoardError → Type 0
GivesSet (Ok set) (Ok sets) = set ≡ layers_of_any sets
GivesSet (Err e) (Err d) = e ≡ d
GivesSet _ _ = ⊥
