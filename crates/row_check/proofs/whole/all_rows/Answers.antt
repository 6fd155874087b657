use Rattle.std.proofs.Common.{◌∙◌, ap, subst, ◌++◌, List}
use Rattle.std.specs.List.{flat_map}
use Rattle.std.specs.List.Sorted.{IsPermutation}
use Rattle.pair_check.specs.PlainRow.{PlainRow}
use Rattle.pair_check.specs.CheckViews.{checked_by}
use Rattle.row_check.proofs.Batches.{all_in_order}
use Rattle.row_check.proofs.whole.all_rows.Goals as goal

pub returns : goal.returns
returns c =
    let now = checked_by c.args.view.now in
    let singles = c.in_ok-push_singles.ensures.rows in
    let sorted = c.in_ok-put_in_order.ensures in
    let pairs = flat_map (λ (batch : List PlainRow). batch) c.args.batches.now in
    let made = c.in_ok-push_batches.ensures.rows ∙ ap (λ rs. rs ++ pairs) (singles.is ∙ ap (λ rs. rs ++ singles.more) c.new-rows.ensures.items) in
    all_in_order now c.args.index.now c.soundness.ensures c.requires.index c.args.tiles.now c.args.ids.now c.requires.enough.rise c.args.batches.now c.requires.batches c.requires.enough c.requires.ids singles.more c.put_in_order.new.rows.items singles.pass
    (subst (λ (rs : List PlainRow). IsPermutation rs c.put_in_order.new.rows.items) made sorted.0) sorted.1
