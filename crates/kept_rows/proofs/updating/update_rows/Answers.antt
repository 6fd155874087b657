use Rattle.std.proofs.Common.{◌∙◌, ap, subst, ◌++◌, List}
use Rattle.std.specs.List.{flat_map}
use Rattle.std.specs.List.Sorted.{IsPermutation}
use Rattle.pair_check.specs.PlainRow.{PlainRow}
use Rattle.pair_check.specs.CheckViews.{checked_by}
use Rattle.kept_rows.proofs.Updated.{rows_updated}
use Rattle.row_check.proofs.Batches.{batches_once}
use Rattle.kept_rows.proofs.updating.update_rows.Goals as goal

pub returns : goal.returns
returns c = λ old step was.
    let now = checked_by c.args.view.now in
    let singles = c.in_ok-push_singles.ensures.rows in
    let sorted = c.in_ok-put_in_order.ensures in
    let pairs = flat_map (λ (batch : List PlainRow). batch) c.args.batches.now in
    let made = c.in_ok-push_batches.ensures.rows ∙ ap (λ rs. rs ++ pairs) (singles.is ∙ ap (λ rs. rs ++ singles.more) c.keep_untouched.ensures) in
    rows_updated old now c.args.index.now c.soundness.ensures c.requires.index c.args.changed.now c.args._tiles.now step c.requires.enough c.args.rows.now.items singles.more pairs c.put_in_order.new.rows.items was singles.pass
    (batches_once now c.args.index.now c.soundness.ensures c.requires.index c.args._tiles.now c.args.changed.now c.requires.enough.rise c.args.batches.now c.requires.batches)
    (subst (λ (rs : List PlainRow). IsPermutation rs c.put_in_order.new.rows.items) made sorted.0) sorted.1
