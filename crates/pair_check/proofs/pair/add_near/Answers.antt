use Rattle.std.proofs.Common.{sym, ◌∙◌}
use Rattle.pair_check.specs.Rows.{deciders}
use Rattle.pair_check.specs.CheckViews.{checked_by}
use Rattle.pair_check.specs.Stages.{pair_of}
use Rattle.pair_check.proofs.RowsOfPair.{pair_unasked, pair_uncompared}
use Rattle.pair_check.proofs.pair.add_near.Goals.{else-asked-via-then-asked+else-is_compared, else-asked-via-else-asked}
use Rattle.pair_check.proofs.pair.add_near.Goals as goal

pub returns-else-asked-clause-rows : goal.returns-else-asked-clause-rows
returns-else-asked-clause-rows c =
    let a = c.args in
    let d = deciders (checked_by a.view.now) in
    elim c.else-asked.branch [
      | else-asked-via-then-asked+else-is_compared w ↦ pair_uncompared d (pair_of a.pair) a.first a.second a.kind a.rows.now c.requires.measured (sym w.is_compared.ensures ∙ w.if-is_compared.false) c.requires.below
      | else-asked-via-else-asked w ↦ pair_unasked d (pair_of a.pair) a.first a.second a.kind a.rows.now c.requires.measured (c.requires.asked w.if-asked.false) c.requires.below
    ]
