use Rattle.std.proofs.Common.{refl, subst, false}
use Rattle.edit_script.specs.Commands.{undo}
use Rattle.undo_log.specs.Ways.{PlainHistory, nearest_first}
use Rattle.undo_log.specs.HistoryCalls.{IsHistoryStepTaken}
use Rattle.undo_log.proofs.Running.{plain, undo_goes_on}
use Rattle.undo_log.proofs.Stepped.{undo_taken}
use Rattle.undo_log.proofs.history.History.undo.Goals as goal

pub invariant_of-self-2 : goal.invariant_of-self-2
invariant_of-self-2 g c = λ runs.
    undo_goes_on c.self.inside.session c.switch.new.session (nearest_first c.self.inside.back.items) (nearest_first c.switch.new.from.items) (nearest_first c.self.inside.on.items) (nearest_first c.switch.new.to.items)
    c.in_ok-applied.applied c.one_undo.ensures c.in_ok-applied.ensures.switched.0 (c.self.invariant c.if-self.false)

pub returns-clause-taken : goal.returns-clause-taken
returns-clause-taken g c = λ at.
    let was = c.self.invariant c.if-self.false in
    let before = plain c.self.inside.session (nearest_first c.self.inside.back.items) (nearest_first c.self.inside.on.items) c.self.inside.stopped in
    let after = plain c.switch.new.session (nearest_first c.switch.new.from.items) (nearest_first c.switch.new.to.items) false in (
      subst (λ (h : PlainHistory). IsHistoryStepTaken h after (undo at) c.in_ok-applied.applied) c.self.view_is
          (undo_taken before after c.in_ok-applied.applied c.one_undo.ensures c.in_ok-applied.ensures.switched.0 c.if-self.false refl (was.past, was.ways) at),
      c.in_ok-applied.ensures.switched.1,
    )
