use Rattle.std.proofs.lemmas.Result.{err_from_is_err_and}
use Rattle.drc_rows.proofs.Lines.{Puts-ends, Puts-broke}
use Rattle.run_trials.proofs.marked_rows.write_some.Goals as goal

pub returns-in_err-push_some : goal.returns-in_err-push_some
returns-in_err-push_some g c =
    let p = err_from_is_err_and c.from_residual.result c.from_residual.ensures.1 in
    Puts-broke _ _ _ _ _ _ _ _ _ _ p.1 c.new-buffer.ensures c.in_err-push_some.ensures

pub returns : goal.returns
returns g c = Puts-ends _ _ _ _ _ _ _ _ _ _ _ c.new-buffer.ensures c.in_ok-push_some.ensures c.end.ensures
