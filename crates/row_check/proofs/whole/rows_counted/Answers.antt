use Rattle.pair_check.specs.CheckViews.{checked_by}
use Rattle.row_check.specs.Whole.{IsOfChanged}
use Rattle.row_check.proofs.Sorting.{once_permutation, rows_from_once}
use Rattle.row_check.proofs.WholeRows.{changed_once}
use Rattle.row_check.proofs.whole.rows_counted.Goals as goal

pub returns : goal.returns
returns g c =
    let now = checked_by c.args.view.now in
    let tiles = c.args.tiles.now in
    let changed = c.args.changed.now in
    let sorted = c.in_ok-put_in_order.ensures in
    let once = changed_once now c.args.index.now c.requires.sound c.requires.index tiles changed _ c.push_singles.new.rows.items c.in_ok-rows.ensures c.in_ok-push_singles.ensures.rows in
    rows_from_once (IsOfChanged now c.args.index.now tiles changed) c.put_in_order.new.rows.items sorted.1 (once_permutation (IsOfChanged now c.args.index.now tiles changed) _ c.put_in_order.new.rows.items sorted.0 once)
