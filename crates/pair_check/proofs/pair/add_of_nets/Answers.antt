use Rattle.std.proofs.Common.{sym, ◌∙◌}
use Rattle.pair_check.specs.Rows.{deciders}
use Rattle.pair_check.specs.CheckViews.{checked_by}
use Rattle.pair_check.specs.Stages.{pair_of}
use Rattle.pair_check.proofs.RowsOfPair.{not_meeting, pair_kept, kept_apart, pair_short}
use Rattle.pair_check.proofs.PassedKinds.{of_one_net}
use Rattle.pair_check.proofs.pair.add_of_nets.Goals as goal

pub returns-then-share_net-clause-rows : goal.returns-then-share_net-clause-rows
returns-then-share_net-clause-rows c =
    let a = c.args in of_one_net (deciders (checked_by a.view.now)) (pair_of a.pair) a.first a.second (sym c.share_net.ensures ∙ c.if-share_net.true) a.rows.now c.requires.below

pub add_near-requires-clause-place : goal.add_near-requires-clause-place
add_near-requires-clause-place c = let a = c.args in not_meeting (deciders (checked_by a.view.now)) (pair_of a.pair) a.first a.second c.in-None.ensures

pub add_of_hole-requires-in-None-clause-place : goal.add_of_hole-requires-in-None-clause-place
add_of_hole-requires-in-None-clause-place c = let a = c.args in not_meeting (deciders (checked_by a.view.now)) (pair_of a.pair) a.first a.second c.in-None.ensures

pub returns-in-Some-clause-rows : goal.returns-in-Some-clause-rows
returns-in-Some-clause-rows c =
    let a = c.args in rw c.push.ensures (pair_short (deciders (checked_by a.view.now)) (pair_of a.pair) a.first a.second a.rows.now c.in-Some.row c.in-Some.ensures c.requires.below)

-- where the copper of the two keeps what is picked
pub add_of_hole-requires-clause-place : goal.add_of_hole-requires-clause-place
add_of_hole-requires-clause-place c = let a = c.args in kept_apart (deciders (checked_by a.view.now)) (pair_of a.pair) a.first a.second (c.is_kept.ensures c.if-is_kept.true)

pub add_of_hole-requires-clause-below : goal.add_of_hole-requires-clause-below
add_of_hole-requires-clause-below c = let a = c.args in pair_kept (deciders (checked_by a.view.now)) (pair_of a.pair) a.first a.second a.rows.now (c.is_kept.ensures c.if-is_kept.true) c.requires.below
