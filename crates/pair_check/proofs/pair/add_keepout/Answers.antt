use Rattle.cond_lang.specs.declared.kind.Kind.TheVariants.{Keepout}
use Rattle.pair_check.specs.Rows.{deciders}
use Rattle.pair_check.specs.CheckViews.{checked_by}
use Rattle.pair_check.specs.Stages.{pair_of}
use Rattle.pair_check.proofs.RowsOfPair.{pair_with}
use Rattle.pair_check.proofs.pair.add_keepout.Goals as goal

pub returns-in-Some-clause-rows : goal.returns-in-Some-clause-rows
returns-in-Some-clause-rows c =
    let a = c.args in rw c.push.ensures (pair_with (deciders (checked_by a.view.now)) (pair_of a.pair) a.first a.second Keepout a.rows.now c.in-Some.row c.in-Some.ensures c.requires.below)
