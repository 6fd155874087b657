use Rattle.std.proofs.Common.{refl, ap, ◌++◌, append_assoc}
use Rattle.std.proofs.lemmas.Result.{err_from_is_err_and}
use Rattle.rule_text.specs.RuleValues.{plain_rules}
use Rattle.drc_rows.specs.Report.{rows_text, notes_text}
use Rattle.drc_rows.specs.ReportOf.{nets_text, tiles_line, first_line, whole_report}
use Rattle.drc_rows.proofs.Lines.{Puts-then, Puts-text, Puts-ends, Puts-broke, Puts-broke_off}
use Rattle.run_reports.proofs.writing.write_whole.Goals as goal

pub returns-in_err-push_items : goal.returns-in_err-push_items
unfolding whole_report
returns-in_err-push_items g c =
    let p = err_from_is_err_and c.from_residual.result c.from_residual.ensures.1 in
    let board = c.args.view.now.board.now in
    let rules = plain_rules c.args.rules.now in
    let items = first_line c.args.number ++ rows_text board rules.rules c.args.rows.now ++ notes_text board rules in
    let nets = nets_text board c.args.parts.now in
    let tiles = tiles_line c.args.tiles.done c.args.tiles.held in
    let same = ap (λ rs. first_line c.args.number ++ rows_text board rs c.args.rows.now ++ notes_text board rules) c.requires.rules in
    Puts-broke_off _ _ _ _ _ items (nets ++ tiles) _ _ _ _ _ p.1 c.new-buffer.ensures (append_assoc items nets tiles)
    (Puts-text _ _ _ _ _ _ _ _ _ same c.in_err-push_items.ensures)

pub returns-in_err-push_parts : goal.returns-in_err-push_parts
unfolding whole_report
returns-in_err-push_parts g c =
    let p = err_from_is_err_and c.from_residual-in_err-push_parts.result c.from_residual-in_err-push_parts.ensures.1 in
    let board = c.args.view.now.board.now in
    let rules = plain_rules c.args.rules.now in
    let items = first_line c.args.number ++ rows_text board rules.rules c.args.rows.now ++ notes_text board rules in
    let nets = nets_text board c.args.parts.now in
    let tiles = tiles_line c.args.tiles.done c.args.tiles.held in
    let same = ap (λ rs. first_line c.args.number ++ rows_text board rs c.args.rows.now ++ notes_text board rules) c.requires.rules in
    Puts-broke_off _ _ _ _ _ (items ++ nets) tiles _ _ _ _ _ p.1 c.new-buffer.ensures refl
    (Puts-then _ _ _ _ _ _ _ _ _ _ _ _ _ (Puts-text _ _ _ _ _ _ _ _ _ same c.in_ok-push_items.ensures) c.in_err-push_parts.ensures)

pub returns-in_err-push_tiles : goal.returns-in_err-push_tiles
unfolding whole_report
returns-in_err-push_tiles g c =
    let p = err_from_is_err_and c.from_residual-in_err-push_tiles.result c.from_residual-in_err-push_tiles.ensures.1 in
    let board = c.args.view.now.board.now in
    let rules = plain_rules c.args.rules.now in
    let same = ap (λ rs. first_line c.args.number ++ rows_text board rs c.args.rows.now ++ notes_text board rules) c.requires.rules in
    Puts-broke _ _ _ _ _ _ _ _ _ _ p.1 c.new-buffer.ensures
    (Puts-then _ _ _ _ _ _ _ _ _ _ _ _ _ (Puts-then _ _ _ _ _ _ _ _ _ _ _ _ _ (Puts-text _ _ _ _ _ _ _ _ _ same c.in_ok-push_items.ensures) c.in_ok-push_parts.ensures)
    c.in_err-push_tiles.ensures)

pub returns : goal.returns
unfolding whole_report
returns g c =
    let board = c.args.view.now.board.now in
    let rules = plain_rules c.args.rules.now in
    let same = ap (λ rs. first_line c.args.number ++ rows_text board rs c.args.rows.now ++ notes_text board rules) c.requires.rules in
    Puts-ends _ _ _ _ _ _ _ _ _ _ _ c.new-buffer.ensures
    (Puts-then _ _ _ _ _ _ _ _ _ _ _ _ _ (Puts-then _ _ _ _ _ _ _ _ _ _ _ _ _ (Puts-text _ _ _ _ _ _ _ _ _ same c.in_ok-push_items.ensures) c.in_ok-push_parts.ensures)
    c.in_ok-push_tiles.ensures)
    c.end.ensures
