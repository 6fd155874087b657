-- What a command would do, as it is found out before anything of it is written.
use Rattle.std.specs.Prelude.{◌≡◌, ◌≤◌, ℕ, false, List, [], ◌++◌, length, codes, Ok}
use Rattle.pair_check.specs.PlainRow.{PlainRow}
use Rattle.pair_check.specs.Rows.{AreRows}
use Rattle.drc_rows.specs.Report.{number_line}
use Rattle.edit_script.specs.Commands.{PlainCommand}
use Rattle.drc_state.specs.States.{State, checked_in}
use Rattle.drc_state.specs.CommandSteps.{Answers}
use Rattle.drc_session.specs.Sessions.{PlainSession}
use Rattle.what_if.specs.Trials.{IsDifference}
use Rattle.run_trials.specs.declared.trial_results.TrialContext.{TrialContext}
use Rattle.run_trials.specs.declared.trial_results.TrialResult.{TrialResult}
use Rattle.run_output.specs.CommandOutputs.{marked_lines, or_some}

-- the session runs, these are its rows, and there are from 1 to 8 workers
pub record IsTrialContext (session : PlainSession) (trial_context : TrialContext) : Type 0 where
  pub running : session.stopped ≡ false
  pub rows : AreRows (checked_in session.state) trial_context.before.now
  pub workers : (1 ≤ trial_context.workers) × (trial_context.workers ≤ 8)

-- the session is where it was
pub record IsStill (old new : PlainSession) : Type 0 where
  pub running : new.stopped ≡ false
  pub same : new.state ≡ old.state

-- this is what the command would do to the state
pub record IsTrialResult (s : State) (command : PlainCommand) (trial_result : TrialResult) : Type 0 where
  pub after : State
  pub answer : Answers s command (Ok after)
  pub come : List PlainRow
  pub differ : IsDifference s after come trial_result.gone.items
  pub rows : List PlainRow
  pub are_rows : AreRows (checked_in after) rows
  pub lines_are : trial_result.lines.items ≡ marked_lines (codes "+ ") after come
  pub comes_is : trial_result.comes ≡ or_some false come
  pub count_is : trial_result.count ≡ length rows

-- the text of it
abbrev pub trial_result_text : ℕ → State → TrialResult → List ℕ
trial_result_text n s trial_result = number_line (codes "trial ") n [] ++ marked_lines (codes "- ") s trial_result.gone.items ++ trial_result.lines.items ++ number_line (codes "rows ") trial_result.count []
