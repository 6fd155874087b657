use Rattle.rule_pick.proofs.OneFacts as once
use Rattle.rule_pick.proofs.laws.one_facts.Goals as goal

pub returns : goal.returns
returns c = once.one_facts
