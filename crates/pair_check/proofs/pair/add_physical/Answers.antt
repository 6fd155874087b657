use Rattle.pair_check.specs.Rows.{deciders}
use Rattle.pair_check.specs.CheckViews.{checked_by}
use Rattle.pair_check.specs.Stages.{pair_of}
use Rattle.pair_check.proofs.PassedKinds.{without_physical}
use Rattle.pair_check.proofs.pair.add_physical.Goals as goal

pub returns-then-not-asked-2 : goal.returns-then-not-asked-2
returns-then-not-asked-2 c =
    let a = c.args in without_physical (deciders (checked_by a.view.now)) (pair_of a.pair) a.first a.second a.asked c.requires.asked c.if-not-asked.true c.if-not-asked-2.true a.rows.now c.requires.below
