use Rattle.std.proofs.Common.{◌∙◌}
use Rattle.item_facts.proofs.Placed.{courtyard_found, no_courtyard, no_body}
use Rattle.item_facts.proofs.meets.courtyard_met.Goals as goal

pub returns-then-meets_either : goal.returns-then-meets_either
returns-then-meets_either c =
    courtyard_found c.args.item.now c.args.other.now.what c.in-Body.reference c.in-Body.front c.in-Body.back c.in-Body.on_back c.in-Body.is c.as_slice-front.result.now c.as_slice-back.result.now
    (c.as_slice-front.ensures ∙ c.get.ensures) (c.as_slice-back.ensures ∙ c.get-in-Body.ensures) c.get-then-meets_either.result.now c.get-then-meets_either.ensures (c.meets_either.ensures.0 c.if-meets_either.true)

pub returns-else-meets_either : goal.returns-else-meets_either
returns-else-meets_either c =
    no_courtyard c.args.item.now c.args.other.now.what c.in-Body.reference c.in-Body.front c.in-Body.back c.in-Body.on_back c.in-Body.is c.as_slice-front.result.now c.as_slice-back.result.now
    (c.as_slice-front.ensures ∙ c.get.ensures) (c.as_slice-back.ensures ∙ c.get-in-Body.ensures) c.meets_either.result c.meets_either.ensures c.if-meets_either.false

pub returns-in_default : goal.returns-in_default
returns-in_default c = no_body c.args.item.now c.args.other.now.what c.in_default.not-Body
