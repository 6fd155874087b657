use Rattle.std.proofs.lemmas.Result.{err_from_is_err_and}
use Rattle.drc_rows.proofs.Lines.{Puts-ends, Puts-broke}
use Rattle.drc_rows.proofs.report.write_pieces.Goals as goal

pub returns-in_err-push_all : goal.returns-in_err-push_all
returns-in_err-push_all g c =
    let p = err_from_is_err_and c.from_residual.result c.from_residual.ensures.1 in
    Puts-broke _ _ _ _ _ _ _ _ _ _ p.1 c.new-buffer.ensures c.in_err-push_all.ensures

pub returns : goal.returns
returns g c = Puts-ends _ _ _ _ _ _ _ _ _ _ _ c.new-buffer.ensures c.in_ok-push_all.ensures c.end.ensures
