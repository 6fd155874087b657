-- What a refusal says, and its number.
use Rattle.std.specs.Prelude.{ℕ, List, ◌++◌, codes}
use Rattle.std.specs.Fmt.{decimal}
use Rattle.courtyard.specs.declared.errors.ChainError.{ChainError}
use Rattle.courtyard.specs.declared.errors.ChainError.TheVariants.{Loose, OutOfMemory}

abbrev pub message_of : ChainError → List ℕ
message_of (Loose line end) = codes "end " ++ (decimal end ++ (codes " of line " ++ (decimal line ++ codes " is loose")))
message_of OutOfMemory = codes "out of memory"

-- running out of memory has no number, which is written 0
abbrev pub code_of : ChainError → List ℕ
code_of (Loose line end) = codes "1"
code_of OutOfMemory = codes "0"
