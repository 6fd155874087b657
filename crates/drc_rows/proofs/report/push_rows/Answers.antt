use Rattle.std.proofs.Common.{sym, map, arith}
use Rattle.std.proofs.lemmas.Result.{err_from_is_err_and}
use Rattle.cond_lang.specs.Rules.{plain_rule}
use Rattle.drc_rows.specs.Report.{row_line}
use Rattle.drc_rows.proofs.Lines.{flat_more_at, flat_rest_at, Puts-then, Puts-cut, Puts-text}
use Rattle.drc_rows.proofs.report.push_rows.Goals as goal

pub returns-in_err-push_row : goal.returns-in_err-push_row
returns-in_err-push_row g c =
    let p = err_from_is_err_and c.from_residual.result c.from_residual.ensures.1 in
    let line = row_line c.args.view.now.board.now (map plain_rule c.args.view.now.rules.now) in
    Puts-cut _ _ _ _ _ _ _ _ _ _ _ _ _ p.1 (flat_rest_at line c.args.rows.now c.loop-row.row-index c.row-item.result (omega arith) c.row-item.is)
    (Puts-then _ _ _ _ _ _ _ _ _ _ _ _ _ c.loop-row.invariant c.in_err-push_row.ensures)

pub loop-row-preserved : goal.loop-row-preserved
loop-row-preserved g c =
    let line = row_line c.args.view.now.board.now (map plain_rule c.args.view.now.rules.now) in
    Puts-text _ _ _ _ _ _ _ _ _ (sym (flat_more_at line c.args.rows.now c.loop-row.row-index c.row-item.result (omega arith) c.row-item.is))
    (Puts-then _ _ _ _ _ _ _ _ _ _ _ _ _ c.loop-row.invariant c.in_ok-push_row.ensures)
