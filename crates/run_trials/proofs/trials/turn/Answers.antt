use Rattle.std.proofs.Common.{ap, Some, None}
use Rattle.edit_script.specs.Commands.{plain_command}
use Rattle.drc_io.proofs.Writing.{Writes-text}
use Rattle.drc_state.specs.States.{State}
use Rattle.run_output.specs.Reports.{refused_trial, why_edit}
use Rattle.run_output.specs.CommandOutputs.{IsTrial}
use Rattle.run_trials.specs.TrialResults.{trial_result_text}
use Rattle.run_trials.proofs.TrialTexts.{carried, not_carried, value_taken_by, value_broken_by}
use Rattle.run_trials.proofs.trials.turn.Goals as goal

pub returns-in-Ok-clause-taken : goal.returns-in-Ok-clause-taken
returns-in-Ok-clause-taken g c =
    let s = c.args.session.now.state in
    let n = c.args.numbered.number in
    let command = plain_command c.args.numbered.command.now in
    let came = c.args.comes.now in
    let o = c.in-Ok.trial_result in
    let turn = carried s command n came c.either.result o c.in-Ok.ensures.trial_result c.either.ensures in
    let written = Writes-text _ _ _ _ _ _ _ (ap (λ (x : State). trial_result_text n x o) c.in-Ok.ensures.still.same) c.write_trial_result-written.ensures in
    value_taken_by (Some o.count) (IsTrial s) n came command c.either.result _ _ _ _ (trial_result_text n s o) turn c.write_trial_result-written.result c.counted.result c.counted.ensures written

pub returns-in-Ok-clause-broken : goal.returns-in-Ok-clause-broken
returns-in-Ok-clause-broken g c =
    let s = c.args.session.now.state in
    let n = c.args.numbered.number in
    let command = plain_command c.args.numbered.command.now in
    let came = c.args.comes.now in
    let o = c.in-Ok.trial_result in
    let turn = carried s command n came c.either.result o c.in-Ok.ensures.trial_result c.either.ensures in
    let written = Writes-text _ _ _ _ _ _ _ (ap (λ (x : State). trial_result_text n x o) c.in-Ok.ensures.still.same) c.write_trial_result-written.ensures in
    value_broken_by (Some o.count) (IsTrial s) n came command c.either.result _ _ _ _ (trial_result_text n s o) turn c.write_trial_result-written.result c.counted.result c.counted.ensures written

pub returns-in-Err-Refused-clause-taken : goal.returns-in-Err-Refused-clause-taken
returns-in-Err-Refused-clause-taken g c =
    let was = c.args.session.now in
    let n = c.args.numbered.number in
    let command = plain_command c.args.numbered.command.now in
    let came = c.args.comes.now in
    let why = c.in-Err-Refused.inner in
    let turn = not_carried was c.trial_result_of.new.session command c.in-Err-Refused.field-0-0 why c.in-Err-Refused.field-0 c.in-Err-Refused.field-0-is c.in-Err-Refused.ensures.refused n came in
    value_taken_by None (IsTrial was.state) n came command came _ _ _ _ (refused_trial n (why_edit why)) turn c.write_refused_trial.result c.counted-in-Err-Refused.result c.counted-in-Err-Refused.ensures c.write_refused_trial.ensures

pub returns-in-Err-Refused-clause-broken : goal.returns-in-Err-Refused-clause-broken
returns-in-Err-Refused-clause-broken g c =
    let was = c.args.session.now in
    let n = c.args.numbered.number in
    let command = plain_command c.args.numbered.command.now in
    let came = c.args.comes.now in
    let why = c.in-Err-Refused.inner in
    let turn = not_carried was c.trial_result_of.new.session command c.in-Err-Refused.field-0-0 why c.in-Err-Refused.field-0 c.in-Err-Refused.field-0-is c.in-Err-Refused.ensures.refused n came in
    value_broken_by None (IsTrial was.state) n came command came _ _ _ _ (refused_trial n (why_edit why)) turn c.write_refused_trial.result c.counted-in-Err-Refused.result c.counted-in-Err-Refused.ensures c.write_refused_trial.ensures
