use Rattle.std.proofs.Common.{Some}
use Rattle.rule_pick.proofs.Slots.{is_put}
use Rattle.rule_pick.proofs.facts_by_id.put.Goals as goal

pub returns : goal.returns
returns c = is_put c.args.slots.now c.args.place (Some c.args.facts) c.requires
