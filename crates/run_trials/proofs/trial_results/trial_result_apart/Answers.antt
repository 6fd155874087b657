use Rattle.std.proofs.Common.{All, ap, map, subst, sym}
use Rattle.std.proofs.lemmas.Result.{err_from_is_err_and}
use Rattle.edit_script.specs.Commands.{plain_command}
use Rattle.pair_check.specs.Rows.{IsRow}
use Rattle.drc_state.specs.States.{checked_in}
use Rattle.run_trials.proofs.TrialTexts.{all_first, alone_refused}
use Rattle.run_trials.proofs.trial_results.trial_result_apart.Goals as goal

pub returns-in_err-then-clause-refused : goal.returns-in_err-then-clause-refused
returns-in_err-then-clause-refused g c =
    let p = err_from_is_err_and c.from_residual.result c.from_residual.ensures.1 in
    let alone = ap (map plain_command) c.from_ref.ensures.value in
    rw (p.1, p.2) (alone_refused c.args.session.now (plain_command c.args.command.now) (map plain_command c.from_ref.result.now) c.in_err-then.field-0.0 alone c.in_err-then.ensures.refused)

pub told_of-trial_result-requires-clause-rows : goal.told_of-trial_result-requires-clause-rows
told_of-trial_result-requires-clause-rows g c =
    let s = checked_in c.args.session.now.state in
    let tried = c.in_ok-then.field-0 in
    let after = checked_in tried.session.state in
    subst (All (IsRow after)) (sym c.deref.ensures.value) (all_first (IsRow after) (λ row. ¬ (IsRow s row)) tried.come.items c.in_ok-then.ensures.tried.differ.come_are.only)
