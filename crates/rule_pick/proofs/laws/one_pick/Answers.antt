use Rattle.rule_pick.proofs.OnePick as once
use Rattle.rule_pick.proofs.laws.one_pick.Goals as goal

pub returns : goal.returns
returns c = once.one_pick
