use Rattle.rule_pick.proofs.Slots.{nothing}
use Rattle.rule_pick.proofs.facts_by_id.FactsById.new.Goals as goal

pub returns : goal.returns
returns c = nothing c.new.result.items c.new.ensures.items
