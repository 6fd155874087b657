use Rattle.pair_check.specs.CheckViews.{checked_by}
use Rattle.row_check.proofs.ApartPairs.{no_rows_apart}
use Rattle.row_check.proofs.tile.push_pair.Goals as goal

pub returns-then-are_apart-clause-rows : goal.returns-then-are_apart-clause-rows
returns-then-are_apart-clause-rows g c =
    let a = c.args in
    let r = c.requires in
    no_rows_apart (checked_by a.tested.now.view.now) a.tested.now.asks.of_copper.nm r.asks.of_copper a.first.now a.second.now a.one a.other r.first r.second r.first_is r.second_is r.ordered r.first_there r.second_there (c.are_apart.ensures c.if-are_apart.true)
    a.row_sink.now.rows.items
