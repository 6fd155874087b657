use Rattle.std.proofs.Common.{◌∙◌, sym, ap}
use Rattle.std.specs.Option.{option_copied}
use Rattle.pair_check.specs.CheckViews.{checked_by, deciders_of}
use Rattle.row_check.proofs.Singles.{nothing_more, no_single, no_broken}
use Rattle.row_check.proofs.whole.push_single.Goals as goal

pub returns-in-None-clause-rows : goal.returns-in-None-clause-rows
returns-in-None-clause-rows c = nothing_more _ _ (no_single (checked_by c.args.view.now) c.args.id (sym c.get.ensures.found ∙ ap option_copied c.in-None.is))

pub returns-then-breaks_nothing-clause-rows : goal.returns-then-breaks_nothing-clause-rows
returns-then-breaks_nothing-clause-rows c =
    let view = c.args.view.now in
    nothing_more _ _ (no_broken (checked_by view) c.args.id c.in-Some.item.now (sym c.get.ensures.found ∙ ap option_copied c.in-Some.is)
    (c.breaks_nothing.ensures (deciders_of view) c.requires.enough c.if-breaks_nothing.true))
