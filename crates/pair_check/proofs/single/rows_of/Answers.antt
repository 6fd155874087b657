use Rattle.pair_check.specs.Rows.{deciders}
use Rattle.pair_check.specs.CheckViews.{checked_by}
use Rattle.pair_check.proofs.RowsOfSingle.{all_of_single}
use Rattle.pair_check.proofs.single.rows_of.Goals as goal

pub returns : goal.returns
returns c = let a = c.args in all_of_single (deciders (checked_by a.view.now)) a.single.item.now a.single.facts.now a.id _ c.add_ban-2.ensures.rows
