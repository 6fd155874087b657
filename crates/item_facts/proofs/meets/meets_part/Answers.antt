use Rattle.std.proofs.Common.{◌∙◌}
use Rattle.item_facts.proofs.Placed.{first_court, second_court, no_court}
use Rattle.item_facts.proofs.meets.meets_part.Goals as goal

pub returns-then-meets_on : goal.returns-then-meets_on
returns-then-meets_on c =
    first_court c.args.item.now c.args.area.now c.args.item.now.what c.in-Body.reference c.in-Body.front c.in-Body.back c.in-Body.on_back c.in-Body.is c.as_slice.result.now c.meets_on.result
    (c.as_slice.ensures ∙ c.get.ensures) c.meets_on.ensures c.if-meets_on.true

pub returns-else-meets_on : goal.returns-else-meets_on
returns-else-meets_on c =
    second_court c.args.item.now c.args.area.now c.args.item.now.what c.in-Body.reference c.in-Body.front c.in-Body.back c.in-Body.on_back c.in-Body.is c.as_slice.result.now c.as_slice-else-meets_on.result.now
    c.meets_on.result c.meets_on-else-meets_on.result (c.as_slice.ensures ∙ c.get.ensures) (c.as_slice-else-meets_on.ensures ∙ c.get-else-meets_on.ensures)
    c.meets_on.ensures c.if-meets_on.false c.meets_on-else-meets_on.ensures

pub returns-in_default : goal.returns-in_default
returns-in_default c = no_court c.args.item.now c.args.area.now c.as_slice-in_default.result.now c.placed_touches.result c.in_default.not-Body c.as_slice-in_default.ensures c.placed_touches.ensures
