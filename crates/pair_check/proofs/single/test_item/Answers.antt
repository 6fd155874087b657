use Rattle.pair_check.specs.CheckViews.{checked_by}
use Rattle.pair_check.proofs.RowsOfSingle.{rows_of_item}
use Rattle.pair_check.proofs.single.test_item.Goals as goal

pub returns-in-Some : goal.returns-in-Some
returns-in-Some c = let s = c.in-Some.single in rows_of_item (checked_by c.args.view.now) s.item.now s.facts.now c.args.id c.in-Some.ensures _ c.rows_of.ensures
