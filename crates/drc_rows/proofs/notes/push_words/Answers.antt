use Rattle.std.proofs.lemmas.Result.{err_from_is_err_and}
use Rattle.drc_rows.proofs.Lines.{Puts-then, Puts-stop}
use Rattle.drc_rows.proofs.notes.push_words.Goals as goal

pub returns-in_err-push : goal.returns-in_err-push
returns-in_err-push g c =
    let p = err_from_is_err_and c.from_residual.result c.from_residual.ensures.1 in
    Puts-stop _ _ _ _ _ _ _ _ _ _ _ _ p.1 c.in_err-push.ensures

pub returns : goal.returns
returns g c = Puts-then _ _ _ _ _ _ _ _ _ _ _ _ _ c.in_ok-push.ensures c.push_quoted.ensures
