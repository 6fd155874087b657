use Rattle.std.proofs.Common.{List, Option, sym, subst}
use Rattle.rule_pick.specs.declared.facts.Facts.{Facts}
use Rattle.rule_pick.specs.ById.{HasSameFacts}
use Rattle.rule_pick.proofs.Slots.{still}
use Rattle.rule_pick.proofs.facts_by_id.fill_up.Goals as goal

pub fill-preserved : goal.fill-preserved
fill-preserved c =
    subst (λ (slots : List (Option Facts)). HasSameFacts c.args.slots.now.items slots) (sym c.in_ok-push.ensures.items) (still c.args.slots.now.items c.fill.slots.items c.fill.invariant)
