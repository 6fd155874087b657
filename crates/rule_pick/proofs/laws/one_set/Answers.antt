use Rattle.rule_pick.proofs.OneFacts as once
use Rattle.rule_pick.proofs.laws.one_set.Goals as goal

pub returns : goal.returns
returns c = once.one_set
