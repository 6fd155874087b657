-- What a list gives, behind what was gathered before it.
use Rattle.std.specs.Prelude.{Result, Ok}
use Rattle.board_errors.specs.declared.errors.BoardError.{BoardError}
use Rattle.list_read.specs.FirstRefusals.{◌>>=◌}
use Rattle.footprint_read.specs.declared.sides.CourtSide.{CourtSide}
use Rattle.footprint_read.specs.declared.contents.Contents.{Contents}
use Rattle.footprint_read.specs.Courtyards.{side_then}
use Rattle.footprint_read.specs.FootprintOf.{contents_then}

-- what a side has, and what this list gives it
abbrev pub onto_side : CourtSide → Result CourtSide BoardError → Result CourtSide BoardError
onto_side side answer = answer >>= λ more. Ok (side_then side more)

-- what was gathered, and what this list gives
abbrev pub onto : Contents → Result Contents BoardError → Result Contents BoardError
onto contents answer = answer >>= λ more. Ok (contents_then contents more)
