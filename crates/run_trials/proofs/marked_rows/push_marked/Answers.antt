use Rattle.std.proofs.Common.{subst, sym, map, ◌++◌, ℕ, List, arith}
use Rattle.std.proofs.lemmas.Result.{err_from_is_err_and}
use Rattle.cond_lang.specs.Rules.{plain_rule}
use Rattle.pair_check.specs.PlainRow.{PlainRow}
use Rattle.pair_check.specs.Rows.{HasItems, HasSource}
use Rattle.drc_rows.specs.Report.{row_line}
use Rattle.drc_rows.proofs.Lines.{flat_more_at, flat_rest_at, Puts-then, Puts-cut, Puts-text}
use Rattle.run_trials.proofs.marked_rows.push_marked.Goals as goal

pub push_marked_row-requires-clause-items : goal.push_marked_row-requires-clause-items
push_marked_row-requires-clause-items g c =
    subst (HasItems c.args.view.now.board.now) (sym c.row-item.is) (c.requires.items c.loop-row.row-index c.row-item.result (omega arith))

pub push_marked_row-requires-clause-source : goal.push_marked_row-requires-clause-source
push_marked_row-requires-clause-source g c =
    subst (HasSource (map plain_rule c.args.view.now.rules.now)) (sym c.row-item.is) (c.requires.sources c.loop-row.row-index c.row-item.result (omega arith))

pub returns-in_err-push_marked_row : goal.returns-in_err-push_marked_row
returns-in_err-push_marked_row g c =
    let p = err_from_is_err_and c.from_residual.result c.from_residual.ensures.1 in
    let line : PlainRow → List ℕ = λ row. (c.args.mark.now ++ row_line c.args.view.now.board.now (map plain_rule c.args.view.now.rules.now) row) in
    Puts-cut _ _ _ _ _ _ _ _ _ _ _ _ _ p.1 (flat_rest_at line c.args.rows.now c.loop-row.row-index c.row-item.result (omega arith) c.row-item.is)
    (Puts-then _ _ _ _ _ _ _ _ _ _ _ _ _ c.loop-row.invariant c.in_err-push_marked_row.ensures)

pub loop-row-preserved : goal.loop-row-preserved
loop-row-preserved g c =
    let line : PlainRow → List ℕ = λ row. (c.args.mark.now ++ row_line c.args.view.now.board.now (map plain_rule c.args.view.now.rules.now) row) in
    Puts-text _ _ _ _ _ _ _ _ _ (sym (flat_more_at line c.args.rows.now c.loop-row.row-index c.row-item.result (omega arith) c.row-item.is))
    (Puts-then _ _ _ _ _ _ _ _ _ _ _ _ _ c.loop-row.invariant c.in_ok-push_marked_row.ensures)
