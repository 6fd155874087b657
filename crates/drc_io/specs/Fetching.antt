-- What a fetch of a whole file must answer, by the file alone.
use Rattle.std.specs.Prelude.{◌≡◌, ◌⊎◌, ℕ, List, Option, None, Result, Err, Vec, IsOk}
use Rattle.std.specs.declared.alloc.Global.{Global}
use Rattle.drc_io.specs.FaultCounts.{Rose}
use Rattle.drc_io.specs.Files.{HasMore, HasAtMost}
use Rattle.drc_io.specs.declared.FetchError.{FetchError}
use Rattle.drc_io.specs.declared.FetchError.TheVariants.{Failed, TooLong, OutOfMemory}

-- by the file, where no fault came and memory was there: its text, or that it has more bytes than the limit; and a fault, where it is not there
pub record Decides (file : Option (List ℕ)) (limit : ℕ) (before now : ℕ) (result : Result (Vec ℕ Global) FetchError) : Type 0 where
  pub found : HasAtMost file limit → IsOk result ⊎ Rose before now ⊎ (result ≡ Err OutOfMemory)
  pub longer : HasMore file limit → (result ≡ Err TooLong) ⊎ Rose before now ⊎ (result ≡ Err OutOfMemory)
  pub absent : file ≡ None → ((result ≡ Err Failed) × Rose before now) ⊎ (result ≡ Err OutOfMemory)
