use Rattle.std.proofs.Common.{rules, Some}
use Rattle.rule_pick.proofs.Slots.{put_behind}
use Rattle.rule_pick.proofs.facts_by_id.FactsById.insert.Goals as goal

pub returns-then-place-len-clause-put : goal.returns-then-place-len-clause-put
returns-then-place-len-clause-put c = put_behind c.args.self.now c.push.new.self.items c.args.id (Some c.args.facts) (search rules) (search rules)
