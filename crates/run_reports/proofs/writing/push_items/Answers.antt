use Rattle.std.proofs.Common.{refl, ◌++◌, map, append_assoc}
use Rattle.std.proofs.lemmas.Result.{err_from_is_err_and}
use Rattle.cond_lang.specs.Rules.{plain_rule}
use Rattle.rule_text.specs.RuleValues.{plain_rules}
use Rattle.drc_rows.specs.Report.{rows_text, notes_text}
use Rattle.drc_rows.specs.ReportOf.{first_line}
use Rattle.drc_rows.proofs.Lines.{Puts-then, Puts-cut}
use Rattle.run_reports.proofs.writing.push_items.Goals as goal

pub returns-in_err-push_line : goal.returns-in_err-push_line
returns-in_err-push_line g c =
    let p = err_from_is_err_and c.from_residual.result c.from_residual.ensures.1 in
    let first = first_line c.args.number in
    let rows = rows_text c.args.view.now.board.now (map plain_rule c.args.view.now.rules.now) c.args.rows.now in
    let notes = notes_text c.args.view.now.board.now (plain_rules c.args.rules.now) in
    Puts-cut _ _ _ _ _ first (rows ++ notes) _ _ _ _ _ _ p.1 (append_assoc first rows notes) c.in_err-push_line.ensures

pub returns-in_err-push_counted_rows : goal.returns-in_err-push_counted_rows
returns-in_err-push_counted_rows g c =
    let p = err_from_is_err_and c.from_residual-in_err-push_counted_rows.result c.from_residual-in_err-push_counted_rows.ensures.1 in
    let first = first_line c.args.number in
    let rows = rows_text c.args.view.now.board.now (map plain_rule c.args.view.now.rules.now) c.args.rows.now in
    let notes = notes_text c.args.view.now.board.now (plain_rules c.args.rules.now) in
    Puts-cut _ _ _ _ _ (first ++ rows) notes _ _ _ _ _ _ p.1 refl (Puts-then _ _ _ _ _ _ _ _ _ _ _ _ _ c.in_ok-push_line.ensures c.in_err-push_counted_rows.ensures)

pub returns : goal.returns
returns g c = Puts-then _ _ _ _ _ _ _ _ _ _ _ _ _ (Puts-then _ _ _ _ _ _ _ _ _ _ _ _ _ c.in_ok-push_line.ensures c.in_ok-push_counted_rows.ensures) c.push_counted_notes.ensures
