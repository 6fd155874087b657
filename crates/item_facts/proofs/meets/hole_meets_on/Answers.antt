use Rattle.std.proofs.Common.{sym, ◌∙◌}
use Rattle.item_facts.proofs.Placed.{hole_meets}
use Rattle.item_facts.proofs.meets.hole_meets_on.Goals as goal

pub returns-then-has : goal.returns-then-has
returns-then-has c = hole_meets c.args.layer c.args.hole.now c.in-Some.hole c.args.others.now c.meets_some.result c.in-Some.is (sym c.has.ensures ∙ c.if-has.true) c.meets_some.ensures
