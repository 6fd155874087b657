-- Commands in runs: the first run has the places 0, n, 2 n and so on, where there are n runs, and the next of them begin at 1, 2 and so on.
use Rattle.std.specs.Prelude.{ℕ, ◌+◌, ◌*◌, ◌<◌, List, length, Option, slice_index_or, Vec}
use Rattle.std.specs.Global.{Global}
use Rattle.edit_script.specs.Commands.{PlainCommand}
use Rattle.tile_pool.specs.NumberedValues.{AreAnswers}
use Rattle.drc_state.specs.States.{State}
use Rattle.what_if.specs.Trials.{IsCountAt}

-- the counts of the run that begins at this place
abbrev pub AreCountsFrom : State → List PlainCommand → ℕ → ℕ → List (Option ℕ) → Type 0
AreCountsFrom s commands stride first counts =
    (k : ℕ) (d : Option ℕ) → first + k * stride < length commands → IsCountAt s commands (first + k * stride) (slice_index_or counts k d)

-- those of all runs
abbrev pub AreCommandRuns : State → List PlainCommand → ℕ → List (Vec (Option ℕ) Global) → Type 0
AreCommandRuns s commands stride runs = AreAnswers (λ first run. AreCountsFrom s commands stride first run.items) stride runs
