use Rattle.pair_check.specs.Rows.{deciders}
use Rattle.pair_check.specs.CheckViews.{checked_by}
use Rattle.pair_check.proofs.RowsOfSingle.{single_with}
use Rattle.pair_check.proofs.single.add_limit.Goals as goal

pub returns-in-Some-clause-rows : goal.returns-in-Some-clause-rows
returns-in-Some-clause-rows c =
    let a = c.args in
    rw c.push.ensures (single_with (deciders (checked_by a.view.now)) a.single.item.now a.single.facts.now a.id a.kind a.rows.now c.in-Some.row c.in-Some.ensures c.requires.below)
