use Rattle.std.proofs.Common.{length, ◌-◌}
use Rattle.rule_pick.specs.ById.{HasSameFacts}
use Rattle.rule_pick.proofs.facts_by_id.fill_up.Given as goal

abbrev pub invariant-fill : goal.invariant-fill
invariant-fill l = HasSameFacts l.fn.slots.items l.slots.items

abbrev pub decreases-fill : goal.decreases-fill
decreases-fill l = l.count - length l.slots.items
