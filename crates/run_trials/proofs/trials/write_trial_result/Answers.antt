use Rattle.std.proofs.Common.{refl, ap, ◌++◌, append_assoc, codes}
use Rattle.std.proofs.lemmas.Result.{err_from_is_err_and}
use Rattle.drc_rows.proofs.Lines.{Puts-then, Puts-text, Puts-ends, Puts-broke, Puts-broke_off}
use Rattle.run_output.specs.CommandOutputs.{marked_lines}
use Rattle.run_trials.proofs.TrialTexts.{first_text, gone_text, last_text, behind_first}
use Rattle.run_trials.proofs.trials.write_trial_result.Goals as goal

pub returns-in_err-push_line : goal.returns-in_err-push_line
returns-in_err-push_line g c =
    let p = err_from_is_err_and c.from_residual.result c.from_residual.ensures.1 in
    Puts-broke_off _ _ _ _ _ _ _ _ _ _ _ _ p.1 c.new-buffer.ensures (behind_first c.args.number c.args.session.now.state c.args.trial_result.now) c.in_err-push_line.ensures

pub returns-in_err-push_some : goal.returns-in_err-push_some
returns-in_err-push_some g c =
    let p = err_from_is_err_and c.from_residual-in_err-push_some.result c.from_residual-in_err-push_some.ensures.1 in
    let n = c.args.number in
    let s = c.args.session.now.state in
    let o = c.args.trial_result.now in
    Puts-broke_off _ _ _ _ _ _ _ _ _ _ _ _ p.1 c.new-buffer.ensures (append_assoc (first_text n s o ++ gone_text n s o) o.lines.items (last_text n s o))
    (Puts-then _ _ _ _ _ _ _ _ _ _ _ _ _ c.in_ok-push_line.ensures (Puts-text _ _ _ _ _ _ _ _ _ (ap (marked_lines (codes "- ") s) c.as_slice-gone.ensures.value) c.in_err-push_some.ensures))

pub returns-in_err-push : goal.returns-in_err-push
returns-in_err-push g c =
    let p = err_from_is_err_and c.from_residual-in_err-push.result c.from_residual-in_err-push.ensures.1 in
    let s = c.args.session.now.state in
    let first = Puts-then _ _ _ _ _ _ _ _ _ _ _ _ _ c.in_ok-push_line.ensures (Puts-text _ _ _ _ _ _ _ _ _ (ap (marked_lines (codes "- ") s) c.as_slice-gone.ensures.value) c.in_ok-push_some.ensures) in
    Puts-broke_off _ _ _ _ _ _ _ _ _ _ _ _ p.1 c.new-buffer.ensures refl (Puts-then _ _ _ _ _ _ _ _ _ _ _ _ _ first (Puts-text _ _ _ _ _ _ _ _ _ c.as_slice-lines.ensures.value c.in_err-push.ensures))

pub returns-in_err-push_line-2 : goal.returns-in_err-push_line-2
returns-in_err-push_line-2 g c =
    let p = err_from_is_err_and c.from_residual-in_err-push_line-2.result c.from_residual-in_err-push_line-2.ensures.1 in
    let s = c.args.session.now.state in
    let first = Puts-then _ _ _ _ _ _ _ _ _ _ _ _ _ c.in_ok-push_line.ensures (Puts-text _ _ _ _ _ _ _ _ _ (ap (marked_lines (codes "- ") s) c.as_slice-gone.ensures.value) c.in_ok-push_some.ensures) in
    let both = Puts-then _ _ _ _ _ _ _ _ _ _ _ _ _ first (Puts-text _ _ _ _ _ _ _ _ _ c.as_slice-lines.ensures.value c.in_ok-push.ensures) in
    Puts-broke _ _ _ _ _ _ _ _ _ _ p.1 c.new-buffer.ensures (Puts-then _ _ _ _ _ _ _ _ _ _ _ _ _ both c.in_err-push_line-2.ensures)

pub returns : goal.returns
returns g c =
    let s = c.args.session.now.state in
    let first = Puts-then _ _ _ _ _ _ _ _ _ _ _ _ _ c.in_ok-push_line.ensures (Puts-text _ _ _ _ _ _ _ _ _ (ap (marked_lines (codes "- ") s) c.as_slice-gone.ensures.value) c.in_ok-push_some.ensures) in
    let both = Puts-then _ _ _ _ _ _ _ _ _ _ _ _ _ first (Puts-text _ _ _ _ _ _ _ _ _ c.as_slice-lines.ensures.value c.in_ok-push.ensures) in
    Puts-ends _ _ _ _ _ _ _ _ _ _ _ c.new-buffer.ensures (Puts-then _ _ _ _ _ _ _ _ _ _ _ _ _ both c.in_ok-push_line-2.ensures) c.end.ensures
