-- When a fault may be answered: only where the count of faults rose in the call.
use Rattle.std.specs.Prelude.{ℕ, ◌≡◌, ◌+◌, ◌<◌, ◌≤◌, ◌⊎◌, min, Result, OnErr}

-- the last value of a counter of 64 bits, at which it stays
abbrev pub last_count : ℕ
last_count = 18446744073709551615

-- one more, but for the last value
abbrev pub next_count : ℕ → ℕ
next_count n = min (n + 1) last_count

-- the count rose in a call: it is greater than before, or stands at the last value
abbrev pub Rose : ℕ → ℕ → Type 0
Rose before now = (before < now) ⊎ (now ≡ last_count)

-- the count has not fallen, and an error comes only where it rose
pub record HasCause {T E : Type 0} (before now : ℕ) (result : Result T E) : Type 0 where
  pub later : before ≤ now
  pub failed : OnErr result (Rose before now)
