-- What the readers' answers stand for.
use Rattle.std.specs.Prelude.{Result}
use Rattle.list_read.specs.FoundNodes.{GivesUnless}
use Rattle.board_errors.specs.declared.errors.BoardError.{BoardError}
use Rattle.board_errors.specs.declared.errors.BoardError.TheVariants.{OutOfMemory}

-- the call gives this answer, unless memory ran out
abbrev pub Gives : {A : Type 0} → Result A BoardError → Result A BoardError → Type 0
Gives result answer = GivesUnless OutOfMemory (λ x. x) result answer

-- the call leaves what the answer is, or gives its refusal, unless memory ran out
abbrev pub Leaves : {A T : Type 0} → Result T BoardError → A → Result A BoardError → Type 0
Leaves result new answer = GivesUnless OutOfMemory (λ _. new) result answer
