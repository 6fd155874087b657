use Rattle.std.proofs.Common.{sym, subst, map, All}
use Rattle.std.proofs.lemmas.Result.{err_from_is_err_and}
use Rattle.drc_rows.proofs.Lines.{Puts-then, Puts-stop, Puts-text}
use Rattle.cond_lang.specs.Rules.{plain_rule}
use Rattle.pair_check.specs.Rows.{HasItems, HasSource}
use Rattle.drc_rows.specs.Report.{row_line}
use Rattle.run_trials.proofs.TrialTexts.{all_one, one_alone}
use Rattle.run_trials.proofs.marked_rows.push_marked_row.Goals as goal

pub push_rows-requires-clause-items : goal.push_rows-requires-clause-items
push_rows-requires-clause-items g c =
    let has = HasItems c.args.view.now.board.now in
    subst (All has) (sym c.from_ref.ensures.value) (all_one has c.args.row.now c.requires.items)

pub push_rows-requires-clause-sources : goal.push_rows-requires-clause-sources
push_rows-requires-clause-sources g c =
    let has = HasSource (map plain_rule c.args.view.now.rules.now) in
    subst (All has) (sym c.from_ref.ensures.value) (all_one has c.args.row.now c.requires.source)

pub returns-in_err-push : goal.returns-in_err-push
returns-in_err-push g c =
    let p = err_from_is_err_and c.from_residual.result c.from_residual.ensures.1 in
    Puts-stop _ _ _ _ _ _ _ _ _ _ _ _ p.1 c.in_err-push.ensures

pub returns : goal.returns
returns g c =
    let line = row_line c.args.view.now.board.now (map plain_rule c.args.view.now.rules.now) in
    Puts-then _ _ _ _ _ _ _ _ _ _ _ _ _ c.in_ok-push.ensures (Puts-text _ _ _ _ _ _ _ _ _ (one_alone line c.from_ref.result.now c.args.row.now c.from_ref.ensures.value) c.push_rows.ensures)
