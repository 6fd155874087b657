use Rattle.pair_check.specs.CheckViews.{checked_by}
use Rattle.row_check.proofs.Singles.{nothing_more, no_singles, one_single_more, all_singles}
use Rattle.row_check.proofs.whole.push_singles.Goals as goal

pub loop-id-init : goal.loop-id-init
loop-id-init c = nothing_more _ _ (no_singles (checked_by c.args.view.now) c.args.ids.now c.requires.rise)

pub loop-id-preserved : goal.loop-id-preserved
loop-id-preserved c = one_single_more (checked_by c.args.view.now) c.args.ids.now c.requires.rise c.loop-id.id-index c.loop-id-test.true _ _ _ c.in_ok-push_single.ensures.rows c.loop-id.invariant

pub returns-clause-rows : goal.returns-clause-rows
returns-clause-rows c = all_singles (checked_by c.args.view.now) c.args.ids.now c.requires.rise c.loop-id.id-index _ _ c.loop-id-test.false c.loop-id.invariant
