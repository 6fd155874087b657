-- The first of the least counts, with how many it counts.
use Rattle.std.specs.Prelude.{◌≢◌, ℕ, List, Option, None, Some, slice_get}
use Rattle.what_if.specs.declared.least.Fewest.{Fewest}
use Rattle.what_if.specs.Trials.{IsFirstLeast}

-- there is none where there is no count
abbrev pub IsFewest : List (Option ℕ) → Option Fewest → Type 0
IsFewest counts (Some fewest) = IsFirstLeast counts fewest.place fewest.count
IsFewest counts None = (place n : ℕ) → slice_get counts place ≢ Some (Some n)
