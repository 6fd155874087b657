use Rattle.std.proofs.Common.{false}
use Rattle.run_output.specs.CommandOutputs.{IsTurn, IsStepTurn}
use Rattle.run_output.specs.Output.{itself, present_of}
use Rattle.undo_log.specs.Past.{begun}
use Rattle.drc_run.proofs.OneOutput as once
use Rattle.drc_run.proofs.OneTurn as turns
use Rattle.drc_run.proofs.OneTold as told
use Rattle.drc_run.proofs.OneTrial as trials
use Rattle.drc_run.proofs.OneWritten as written
use Rattle.drc_run.proofs.laws.both_laws.Goals as goal

pub returns : goal.returns
returns c =
    let rows = c.one_list.ensures in
    let parts = c.one_list_of_parts.ensures in
    let held = c.one_list_held.ensures.tiles in
    let opening = turns.one_opening rows parts held in
    let turn = turns.one_turn rows parts held c.one_answer.ensures c.one_recheck.ensures in
    let step = turns.one_step_turn rows parts held c.one_step.ensures c.one_recheck.ensures in
    once.both_laws c.one_reading.ensures c.one_reading-2.ensures c.one_reading-3.ensures.commands c.one_reading-3.ensures.steps
    (λ short s. told.one_told rows opening (IsTurn short) (turn short) itself short s)
    (λ short s. told.prefix_of_told rows opening (IsTurn short) (turn short) itself short s)
    (λ s. told.one_told rows opening IsStepTurn step present_of false (begun s))
    (λ s. told.prefix_of_told rows opening IsStepTurn step present_of false (begun s))
    (λ s. trials.one_tried c.one_answer.ensures rows c.one_trial.ensures.rows s (c.one_survey.ensures s))
    (λ s. trials.prefix_of_tried c.one_answer.ensures rows c.one_trial.ensures.rows s)
    (told.one_stolen rows)
    (written.one_written c.one_outcome.ensures)
