use Rattle.rule_pick.proofs.Slots.{nothing}
use Rattle.rule_pick.proofs.facts_by_id.FactsById.with_reserved.Goals as goal

pub returns : goal.returns
returns c = nothing c.in_ok-with_capacity.field-0.items c.in_ok-with_capacity.ensures.items
