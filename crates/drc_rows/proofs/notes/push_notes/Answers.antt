use Rattle.std.proofs.lemmas.Result.{err_from_is_err_and}
use Rattle.drc_rows.proofs.Lines.{Puts-then, Puts-stop}
use Rattle.drc_rows.proofs.notes.push_notes.Goals as goal

pub returns-in_err-push_items : goal.returns-in_err-push_items
returns-in_err-push_items g c =
    let p = err_from_is_err_and c.from_residual.result c.from_residual.ensures.1 in
    Puts-stop _ _ _ _ _ _ _ _ _ _ _ _ p.1 c.in_err-push_items.ensures

pub returns : goal.returns
returns g c = Puts-then _ _ _ _ _ _ _ _ _ _ _ _ _ c.in_ok-push_items.ensures c.push_constraints.ensures
