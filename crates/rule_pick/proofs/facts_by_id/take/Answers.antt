use Rattle.std.proofs.Common.{Option, None, set, sym, subst, ◌∙◌}
use Rattle.rule_pick.specs.declared.facts.Facts.{Facts}
use Rattle.rule_pick.specs.ById.{IsPut}
use Rattle.rule_pick.proofs.Slots.{is_put, not_put, past, within}
use Rattle.rule_pick.proofs.facts_by_id.take.Goals as goal

pub returns-then-place-slots-clause-taken : goal.returns-then-place-slots-clause-taken
returns-then-place-slots-clause-taken c =
    c.take.ensures.value ∙ within c.args.slots.now c.args.place c.index-slots-place.result c.if-place-slots.true

pub returns-then-place-slots-clause-rest : goal.returns-then-place-slots-clause-rest
returns-then-place-slots-clause-rest c =
    subst (λ (slot : Option Facts). IsPut c.args.place None c.args.slots.now (set c.args.slots.now c.args.place slot)) (sym c.take.ensures.after)
    (is_put c.args.slots.now c.args.place None c.if-place-slots.true)

pub returns-else-place-slots-clause-taken : goal.returns-else-place-slots-clause-taken
returns-else-place-slots-clause-taken c = sym (past c.args.slots.now c.args.place c.if-place-slots.false)

pub returns-else-place-slots-clause-rest : goal.returns-else-place-slots-clause-rest
returns-else-place-slots-clause-rest c = not_put c.args.slots.now c.args.place c.if-place-slots.false
