use Rattle.std.proofs.Common.{sym, subst, ap, ◌++◌, All}
use Rattle.std.specs.List.{flat_map}
use Rattle.drc_rows.proofs.Lines.{Puts-text}
use Rattle.pair_check.specs.PlainRow.{PlainRow}
use Rattle.pair_check.specs.Rows.{Checked, HasItems, HasSource}
use Rattle.drc_rows.specs.Report.{row_line}
use Rattle.drc_state.specs.States.{checked_in}
use Rattle.run_trials.proofs.TrialTexts.{each_row}
use Rattle.run_trials.proofs.marked_rows.push_some.Goals as goal

pub push_marked-requires-clause-items : goal.push_marked-requires-clause-items
push_marked-requires-clause-items g c =
    let k = checked_in c.args.session.now.state in
    let has = each_row k (HasItems k.board) c.rows.result.now c.args.rows.now c.rows.ensures.rows (c.rows_have_items.ensures k c.rows.result.now c.rows.ensures.rows) c.requires.rows in
    subst (λ (x : Checked). All (HasItems x.board) c.args.rows.now) (sym c.view.ensures.checked) has

pub push_marked-requires-clause-sources : goal.push_marked-requires-clause-sources
push_marked-requires-clause-sources g c =
    let k = checked_in c.args.session.now.state in
    let has = each_row k (HasSource k.rules) c.rows.result.now c.args.rows.now c.rows.ensures.rows (c.rows_have_sources.ensures k c.rows.result.now c.rows.ensures.rows) c.requires.rows in
    subst (λ (x : Checked). All (HasSource x.rules) c.args.rows.now) (sym c.view.ensures.checked) has

pub returns : goal.returns
returns g c =
    let same = ap (λ (x : Checked). flat_map (λ (row : PlainRow). c.args.mark.now ++ row_line x.board x.rules row) c.args.rows.now) c.view.ensures.checked in
    Puts-text _ _ _ _ _ _ _ _ _ same c.push_marked.ensures
