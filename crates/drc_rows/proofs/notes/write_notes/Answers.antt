use Rattle.std.proofs.lemmas.Result.{err_from_is_err_and}
use Rattle.drc_rows.proofs.Lines.{Puts-ends, Puts-broke}
use Rattle.drc_rows.proofs.notes.write_notes.Goals as goal

pub returns-in_err-push_notes : goal.returns-in_err-push_notes
returns-in_err-push_notes g c =
    let p = err_from_is_err_and c.from_residual.result c.from_residual.ensures.1 in
    Puts-broke _ _ _ _ _ _ _ _ _ _ p.1 c.new-buffer.ensures c.in_err-push_notes.ensures

pub returns : goal.returns
returns g c = Puts-ends _ _ _ _ _ _ _ _ _ _ _ c.new-buffer.ensures c.in_ok-push_notes.ensures c.end.ensures
