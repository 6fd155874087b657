use Rattle.pair_check.specs.Pairs.{Pair}
use Rattle.pair_check.specs.CheckViews.{checked_by}
use Rattle.pair_check.proofs.RowsOfPair.{rows_of_pair}
use Rattle.pair_check.proofs.pair.test_two.Goals as goal

pub returns : goal.returns
returns c =
    let one = c.args.one in
    let other = c.args.other in
    let pair : Pair = record { a = one.item.now; b = other.item.now; facts_a = one.facts.now; facts_b = other.facts.now } in
    rows_of_pair (checked_by c.args.view.now) pair c.args.first c.args.second c.requires.first c.requires.second c.requires.ordered _ c.add_all.ensures
