-- How a fetch that came to nothing is named: by its name and its number. Running out of memory has no number.
use Rattle.std.specs.Prelude.{ℕ, List, codes}
use Rattle.drc_io.specs.declared.FetchError.{FetchError}
use Rattle.drc_io.specs.declared.FetchError.TheVariants.{Failed, TooLong, OutOfMemory}

abbrev pub message_of : FetchError → List ℕ
message_of Failed = codes "Failed (1)"
message_of TooLong = codes "TooLong (2)"
message_of OutOfMemory = codes "OutOfMemory"
