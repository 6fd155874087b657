use Rattle.pair_check.specs.Rows.{deciders}
use Rattle.pair_check.specs.CheckViews.{checked_by}
use Rattle.pair_check.specs.Stages.{pair_of}
use Rattle.pair_check.proofs.PassedKinds.{not_both_holes}
use Rattle.pair_check.proofs.pair.add_of_holes.Goals as goal

pub returns-else-have_holes-clause-rows : goal.returns-else-have_holes-clause-rows
returns-else-have_holes-clause-rows c =
    let a = c.args in not_both_holes (deciders (checked_by a.view.now)) (pair_of a.pair) a.first a.second (c.have_holes.ensures c.if-have_holes.false) a.rows.now c.requires.below
