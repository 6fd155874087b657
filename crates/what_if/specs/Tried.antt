-- What a trial gives, and why there is none.
use Rattle.std.specs.Prelude.{◌≡◌, ◌≢◌, ◌⊎◌, ℕ, true, false, List, Ok, Err}
use Rattle.edit_script.specs.Commands.{PlainCommand}
use Rattle.drc_state.specs.declared.error.EditError.TheVariants.{Stopped, OutOfMemory as NoMemory}
use Rattle.drc_state.specs.States.{State}
use Rattle.drc_state.specs.CommandSteps.{Answers}
use Rattle.drc_state.specs.StateChanges.{plain_change, IsInverseChange}
use Rattle.drc_session.specs.Sessions.{PlainSession, IsChecked}
use Rattle.what_if.specs.declared.error.TrialError.{TrialError}
use Rattle.what_if.specs.declared.error.TrialError.TheVariants.{Refused, OutOfMemory}
use Rattle.what_if.specs.declared.outcome.Trial.{Trial}
use Rattle.what_if.specs.declared.outcome.Taken.{Taken}
use Rattle.what_if.specs.Trials.{LeadTo, StopsAt, IsDifference}

-- the session of the trial took the commands: it runs, its rows and nets are those of its state, and beside it stand those that come
-- and go
pub record IsTrialOf (before : State) (commands : List PlainCommand) (trial : Trial) : Type 0 where
  pub running : trial.session.stopped ≡ false
  pub led : LeadTo before commands trial.session.state
  pub checked : IsChecked trial.session
  pub differ : IsDifference before trial.session.state trial.come.items trial.gone.items

-- there is none: a command is the first that is refused, by the rules of what is edited, or memory ran out
abbrev pub IsRefusal : State → List PlainCommand → TrialError → Type 0
IsRefusal s commands (Refused step inner) = StopsAt s commands step inner × (inner ≢ Stopped) × (inner ≢ NoMemory)
IsRefusal s commands OutOfMemory = Unit {0}

-- there is none of this command alone, which has this place
abbrev pub IsRefusedAt : State → PlainCommand → ℕ → TrialError → Type 0
IsRefusedAt s command place (Refused step inner) = (step ≡ place) × Answers s command (Err inner) × (inner ≢ Stopped) × (inner ≢ NoMemory)
IsRefusedAt s command place OutOfMemory = Unit {0}

-- ---- on the session itself

-- the session took the command: beside it stand the rows that come and go, and the inverse change
pub record IsTaken (before : State) (command : PlainCommand) (after : State) (taken : Taken) : Type 0 where
  pub answer : Answers before command (Ok after)
  pub differ : IsDifference before after taken.come.items taken.gone.items
  pub back : IsInverseChange (plain_change taken.back) after before

-- it did not: the command is refused, by the rules of what is edited, and all is as it was, or memory ran out
abbrev pub IsRefusedHere : PlainSession → PlainSession → PlainCommand → TrialError → Type 0
IsRefusedHere old new command (Refused step inner) = (step ≡ 0) × Answers old.state command (Err inner) × (inner ≢ Stopped) × (inner ≢ NoMemory) × (new ≡ old)
IsRefusedHere old new command OutOfMemory = Unit {0}

-- what running out of memory leaves of the session: it is stopped, or it took the command, and only the rows that come and go are missing
abbrev pub IsStoppedOrTook : PlainSession → PlainSession → PlainCommand → Type 0
IsStoppedOrTook old new command = (new.stopped ≡ true) ⊎ ((new.stopped ≡ false) × Answers old.state command (Ok new.state))
