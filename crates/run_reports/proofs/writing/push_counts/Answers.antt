use Rattle.std.proofs.Common.{refl, ◌++◌, [], codes, append_assoc}
use Rattle.std.proofs.lemmas.Result.{err_from_is_err_and}
use Rattle.drc_rows.specs.Report.{number_line}
use Rattle.drc_rows.proofs.Lines.{Puts-then, Puts-cut}
use Rattle.run_reports.proofs.writing.push_counts.Goals as goal

pub returns-in_err-push_line : goal.returns-in_err-push_line
returns-in_err-push_line g c =
    let p = err_from_is_err_and c.from_residual.result c.from_residual.ensures.1 in
    let rows = number_line (codes "rows ") c.args.counts.rows [] in
    let notes = number_line (codes "not checked ") c.args.counts.notes [] in
    let nets = number_line (codes "open nets ") c.args.counts.nets [] in
    Puts-cut _ _ _ _ _ rows (notes ++ nets) _ _ _ _ _ _ p.1 (append_assoc rows notes nets) c.in_err-push_line.ensures

pub returns-in_err-push_line-2 : goal.returns-in_err-push_line-2
returns-in_err-push_line-2 g c =
    let p = err_from_is_err_and c.from_residual-in_err-push_line-2.result c.from_residual-in_err-push_line-2.ensures.1 in
    let rows = number_line (codes "rows ") c.args.counts.rows [] in
    let notes = number_line (codes "not checked ") c.args.counts.notes [] in
    let nets = number_line (codes "open nets ") c.args.counts.nets [] in
    Puts-cut _ _ _ _ _ (rows ++ notes) nets _ _ _ _ _ _ p.1 refl (Puts-then _ _ _ _ _ _ _ _ _ _ _ _ _ c.in_ok-push_line.ensures c.in_err-push_line-2.ensures)

pub returns : goal.returns
returns g c = Puts-then _ _ _ _ _ _ _ _ _ _ _ _ _ (Puts-then _ _ _ _ _ _ _ _ _ _ _ _ _ c.in_ok-push_line.ensures c.in_ok-push_line-2.ensures) c.push_line-3.ensures
