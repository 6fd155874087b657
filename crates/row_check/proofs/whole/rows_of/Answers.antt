use Rattle.std.proofs.Common.{◌∙◌}
use Rattle.std.proofs.lemmas.Result.{IfOk-weaker}
use Rattle.pair_check.specs.CheckViews.{checked_by}
use Rattle.row_check.proofs.WholeRows.{dirty_rise, all_rows}
use Rattle.row_check.proofs.whole.rows_of.Goals as goal

pub rows_of_changed-requires-clause-tiles : goal.rows_of_changed-requires-clause-tiles
rows_of_changed-requires-clause-tiles c = dirty_rise c.args.index.now c.deref.result.now (c.deref.ensures.value ∙ c.in_ok-tiles.ensures.tiles)

pub returns : goal.returns
returns c =
    IfOk-weaker c.rows_of_changed.result _ _
    (λ rows h. all_rows (checked_by c.args.view.now) c.args.index.now c.in_ok-tiles.ensures.sound c.requires.index c.deref.result.now c.deref-2.result.now _ (c.deref.ensures.value ∙ c.in_ok-tiles.ensures.tiles) (c.deref-2.ensures.value ∙ c.in_ok-ids.ensures.ids) h)
    c.rows_of_changed.ensures
