use Rattle.std.proofs.Common.{sym, ◌∙◌}
use Rattle.pair_check.specs.Rows.{deciders}
use Rattle.pair_check.specs.CheckViews.{checked_by}
use Rattle.pair_check.specs.Stages.{pair_of}
use Rattle.pair_check.proofs.PassedKinds.{of_copper}
use Rattle.pair_check.proofs.pair.add_of_outlines.Goals as goal

pub returns-then-are_copper-clause-rows : goal.returns-then-are_copper-clause-rows
returns-then-are_copper-clause-rows c =
    let a = c.args in of_copper (deciders (checked_by a.view.now)) (pair_of a.pair) a.first a.second (sym c.are_copper.ensures ∙ c.if-are_copper.true) a.rows.now c.requires.below
