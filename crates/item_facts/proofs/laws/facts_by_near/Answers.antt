use Rattle.item_facts.proofs.Alone as alone
use Rattle.item_facts.proofs.laws.facts_by_near.Goals as goal

pub returns : goal.returns
returns c old new classes item facts test nets near had = alone.facts_by_near old new classes item facts test nets near.same near.passes had
