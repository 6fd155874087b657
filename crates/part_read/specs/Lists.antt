-- Lists that readers gather.
use Rattle.std.specs.Prelude.{◌++◌, List, Vec, Result, Ok, Err}
use Rattle.std.specs.declared.alloc.Global.{Global}
use Rattle.list_read.specs.FoundNodes.{GivesUnless}
use Rattle.board_errors.specs.declared.errors.BoardError.{BoardError}
use Rattle.board_errors.specs.declared.errors.BoardError.TheVariants.{OutOfMemory}

-- the call gives a vector of this list, unless memory ran out
abbrev pub GivesItems : {A : Type 0} → Result (Vec A Global) BoardError → Result (List A) BoardError → Type 0
GivesItems result answer = GivesUnless OutOfMemory (λ v. v.items) result answer

-- the list after what was gathered before
abbrev pub before : {A : Type 0} → List A → Result (List A) BoardError → Result (List A) BoardError
before xs (Ok ys) = Ok (xs ++ ys)
before xs (Err e) = Err e
