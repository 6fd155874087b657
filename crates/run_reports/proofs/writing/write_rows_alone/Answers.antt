use Rattle.std.proofs.Common.{refl, []}
use Rattle.std.proofs.lemmas.Result.{err_from_is_err_and}
use Rattle.drc_rows.specs.Report.{rows_text}
use Rattle.drc_rows.specs.ReportOf.{first_line}
use Rattle.drc_rows.proofs.Lines.{Puts-then, Puts-ends, Puts-broke, Puts-broke_off}
use Rattle.run_reports.proofs.writing.write_rows_alone.Goals as goal

pub returns-in_err-push_line : goal.returns-in_err-push_line
returns-in_err-push_line g c =
    let p = err_from_is_err_and c.from_residual.result c.from_residual.ensures.1 in
    let rows = rows_text c.args.board.now [] c.args.rows.now in
    Puts-broke_off _ _ _ _ _ (first_line 0) rows _ _ _ _ _ p.1 c.new-buffer.ensures refl c.in_err-push_line.ensures

pub returns-in_err-push_counted_rows : goal.returns-in_err-push_counted_rows
returns-in_err-push_counted_rows g c =
    let p = err_from_is_err_and c.from_residual-in_err-push_counted_rows.result c.from_residual-in_err-push_counted_rows.ensures.1 in
    Puts-broke _ _ _ _ _ _ _ _ _ _ p.1 c.new-buffer.ensures (Puts-then _ _ _ _ _ _ _ _ _ _ _ _ _ c.in_ok-push_line.ensures c.in_err-push_counted_rows.ensures)

pub returns : goal.returns
returns g c =
    Puts-ends _ _ _ _ _ _ _ _ _ _ _ c.new-buffer.ensures (Puts-then _ _ _ _ _ _ _ _ _ _ _ _ _ c.in_ok-push_line.ensures c.in_ok-push_counted_rows.ensures) c.end.ensures
