use Rattle.std.proofs.Common.{sym, ◌∙◌}
use Rattle.pair_check.specs.Rows.{deciders}
use Rattle.pair_check.specs.CheckViews.{checked_by}
use Rattle.pair_check.proofs.RowsOfSingle.{single_without, broken_of, says_ban}
use Rattle.pair_check.proofs.AskedKinds.{forbids_nothing}
use Rattle.pair_check.proofs.single.add_ban.Goals as goal

pub returns-else-some_asks-clause-rows : goal.returns-else-some_asks-clause-rows
returns-else-some_asks-clause-rows c =
    let a = c.args in
    let d = deciders (checked_by a.view.now) in
    let item = a.single.item.now in
    let facts = a.single.facts.now in
    single_without d item facts a.id a.kind a.rows.now
    (λ row h.
    let says = says_ban d item facts a.kind row c.requires.ban (broken_of d item facts a.id a.kind row h) in
    forbids_nothing a.view.now.rules.now d.mins a.kind c.requires.ban (sym c.some_asks.ensures ∙ c.if-some_asks.false) item facts row.layer d.copper says.where_first.holds) c.requires.below
