use Rattle.std.proofs.Common.{◌∙◌, ap, sym, refl, cond}
use Rattle.std.specs.List.{filter}
use Rattle.row_check.proofs.TileWalk.{head_changed}
use Rattle.row_check.proofs.tile.partners.Goals as goal

pub returns-then-head-first-clause-partners : goal.returns-then-head-first-clause-partners
returns-then-head-first-clause-partners c = λ changed e.
    let h = head_changed changed c.args.first.now c.in-Some.head.now c.args.later.now c.in-Some.rest.now c.requires.rising c.if-head-first.true (changed c.args.first.now) refl (sym c.in-Some.ensures.cases.0 ∙ e) in
    ap (λ b. cond b c.args.later.now (filter changed c.args.later.now)) (sym h.0)

pub returns-then-head-first-clause-touched : goal.returns-then-head-first-clause-touched
returns-then-head-first-clause-touched c = λ changed e.
    (head_changed changed c.args.first.now c.in-Some.head.now c.args.later.now c.in-Some.rest.now c.requires.rising c.if-head-first.true (changed c.args.first.now) refl (sym c.in-Some.ensures.cases.0 ∙ e)).1
