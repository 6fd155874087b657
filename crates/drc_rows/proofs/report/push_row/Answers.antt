use Rattle.std.proofs.Common.{refl, ◌++◌, append_assoc, map, codes}
use Rattle.std.proofs.lemmas.Result.{err_from_is_err_and}
use Rattle.cond_lang.specs.Rules.{plain_rule}
use Rattle.drc_rows.specs.Report.{head_text, items_text, measures, row_line}
use Rattle.drc_rows.proofs.Lines.{Puts-then, Puts-cut}
use Rattle.drc_rows.proofs.report.push_row.Goals as goal

pub returns-in_err-push_head : goal.returns-in_err-push_head
unfolding row_line
returns-in_err-push_head g c =
    let p = err_from_is_err_and c.from_residual.result c.from_residual.ensures.1 in
    let row = c.args.row.now in
    let head = head_text row in
    let items = items_text row.kind c.args.view.now.board.now row in
    let rest = measures row.kind (map plain_rule c.args.view.now.rules.now) row in
    Puts-cut _ _ _ _ _ head (items ++ rest ++ codes "\n") _ _ _ _ _ _ p.1 (simp append_assoc) c.in_err-push_head.ensures

pub returns-in_err-push_items : goal.returns-in_err-push_items
unfolding row_line
returns-in_err-push_items g c =
    let p = err_from_is_err_and c.from_residual-in_err-push_items.result c.from_residual-in_err-push_items.ensures.1 in
    let row = c.args.row.now in
    let first = head_text row ++ items_text row.kind c.args.view.now.board.now row in
    let rest = measures row.kind (map plain_rule c.args.view.now.rules.now) row in
    Puts-cut _ _ _ _ _ first (rest ++ codes "\n") _ _ _ _ _ _ p.1 (append_assoc first rest (codes "\n"))
    (Puts-then _ _ _ _ _ _ _ _ _ _ _ _ _ c.in_ok-push_head.ensures c.in_err-push_items.ensures)

pub returns-in_err-push_measures : goal.returns-in_err-push_measures
unfolding row_line
returns-in_err-push_measures g c =
    let p = err_from_is_err_and c.from_residual-in_err-push_measures.result c.from_residual-in_err-push_measures.ensures.1 in
    let row = c.args.row.now in
    let first = head_text row ++ items_text row.kind c.args.view.now.board.now row ++ measures row.kind (map plain_rule c.args.view.now.rules.now) row in
    Puts-cut _ _ _ _ _ first (codes "\n") _ _ _ _ _ _ p.1 refl
    (Puts-then _ _ _ _ _ _ _ _ _ _ _ _ _ (Puts-then _ _ _ _ _ _ _ _ _ _ _ _ _ c.in_ok-push_head.ensures c.in_ok-push_items.ensures) c.in_err-push_measures.ensures)

pub returns : goal.returns
unfolding row_line
returns g c =
    Puts-then _ _ _ _ _ _ _ _ _ _ _ _ _
    (Puts-then _ _ _ _ _ _ _ _ _ _ _ _ _ (Puts-then _ _ _ _ _ _ _ _ _ _ _ _ _ c.in_ok-push_head.ensures c.in_ok-push_items.ensures) c.in_ok-push_measures.ensures)
    c.push.ensures
