-- What a refusal says.
use Rattle.std.specs.Prelude.{ℕ, List, codes}
use Rattle.exact_dec.specs.declared.DecError.{DecError}
use Rattle.exact_dec.specs.declared.DecError.TheVariants.{BadNumber, TooWide}

abbrev pub message_of : DecError → List ℕ
message_of BadNumber = codes "no number of the form that is wanted"
message_of TooWide = codes "a number over a limit"
