-- When a count of faults rises outside the program.
use Rattle.std.specs.Prelude.{ℕ, Bool, false, ◌==◌, List, length, if◌then◌else◌, Result, Ok, Err}
use Rattle.drc_io.specs.FaultCounts.{next_count}

-- the count after a call that met a fault or not
abbrev pub counted : ℕ → Bool → ℕ
counted faults fault = if fault then next_count faults else faults

-- a write took the whole piece
abbrev pub takes_all : {E : Type 0} → Result ℕ E → List ℕ → Bool
takes_all (Ok n) piece = n == length piece
takes_all (Err e) piece = false
