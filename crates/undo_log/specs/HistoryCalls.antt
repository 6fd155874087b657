-- What the calls of a history do. A history that runs has a past, and what is said of it is said of every past that it may be said to have.
-- These pasts are equal but for the numbers that come next.
use Rattle.std.specs.Prelude.{◌≡◌, ◌⊎◌, true, false, List, [], ◌∷◌, Ok, Err}
use Rattle.edit_script.specs.Commands.{PlainStep}
use Rattle.drc_session.specs.declared.applied.Applied.{Applied}
use Rattle.drc_session.specs.Sessions.{PlainSession, IsApplied}
use Rattle.undo_log.specs.declared.error.HistoryError.{HistoryError}
use Rattle.undo_log.specs.declared.error.HistoryError.TheVariants.{Stopped, OutOfMemory}
use Rattle.undo_log.specs.Past.{Past, StepAnswers, does_replace}
use Rattle.undo_log.specs.Ways.{PlainHistory, IsPastOf, HasPast}

-- the step leads from this past to the one that the history then has
pub record IsStepFrom (past : Past) (new : PlainHistory) (step : PlainStep) (applied : Applied) : Type 0 where
  pub next : Past
  pub answer : StepAnswers past step (Ok next)
  pub is_past : IsPastOf new next
  pub applied_is : IsApplied past.now next.now (does_replace past step) applied

-- the step was taken
pub record IsHistoryStepTaken (old new : PlainHistory) (step : PlainStep) (applied : Applied) : Type 0 where
  pub running : (old.stopped ≡ false) × (new.stopped ≡ false)
  pub past : HasPast old
  pub steps : (past : Past) → IsPastOf old past → IsStepFrom past new step applied

-- what running out of memory leaves of a session: it is stopped, or it is as it was
abbrev pub IsStoppedOrSame : PlainSession → PlainSession → Type 0
IsStoppedOrSame old new = (new.stopped ≡ true) ⊎ (new ≡ old)

-- why it was not: the history is stopped, or memory ran out, or the step is refused and all is as it was
abbrev pub IsStepRefused : PlainHistory → PlainHistory → PlainStep → HistoryError → Type 0
IsStepRefused old new step Stopped = (old.stopped ≡ true) × (new ≡ old)
IsStepRefused old new step OutOfMemory = (old.stopped ≡ false) × (new.stopped ≡ true) × IsStoppedOrSame old.session new.session
IsStepRefused old new step why = (old.stopped ≡ false) × ((past : Past) → IsPastOf old past → StepAnswers past step (Err why)) × (new ≡ old)

-- ---- one call after another

-- the call for the step was made, and the step was taken or refused
abbrev pub IsCall : PlainHistory → PlainHistory → PlainStep → Type 0
IsCall old new step = ((applied : Applied) × IsHistoryStepTaken old new step applied) ⊎ ((why : HistoryError) × IsStepRefused old new step why)

-- so it was for each of the steps
abbrev pub AreCalls : PlainHistory → List PlainStep → PlainHistory → Type 0
AreCalls old [] new = new ≡ old
AreCalls old (step ∷ steps) new = (next : PlainHistory) × IsCall old next step × AreCalls next steps new
