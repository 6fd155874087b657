use Rattle.item_facts.proofs.Alone as alone
use Rattle.item_facts.proofs.laws.met_is_near.Goals as goal

pub returns : goal.returns
returns c = alone.met_is_near
