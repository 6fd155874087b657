use Rattle.std.proofs.lemmas.Result.{err_from_is_err_and}
use Rattle.drc_rows.proofs.Lines.{Puts-then, Puts-stop}
use Rattle.run_reports.proofs.writing.push_counted_rows.Goals as goal

pub returns-in_err-push_rows : goal.returns-in_err-push_rows
returns-in_err-push_rows g c =
    let p = err_from_is_err_and c.from_residual.result c.from_residual.ensures.1 in
    Puts-stop _ _ _ _ _ _ _ _ _ _ _ _ p.1 c.in_err-push_rows.ensures

pub returns : goal.returns
returns g c = Puts-then _ _ _ _ _ _ _ _ _ _ _ _ _ c.in_ok-push_rows.ensures c.push_line.ensures
