use Rattle.std.proofs.Common.{subst}
use Rattle.edit_script.specs.Commands.{plain_command, edit}
use Rattle.undo_log.specs.Ways.{PlainHistory, nearest_first}
use Rattle.undo_log.specs.HistoryCalls.{IsHistoryStepTaken}
use Rattle.undo_log.proofs.Running.{plain, edit_goes_on}
use Rattle.undo_log.proofs.Stepped.{edit_taken}
use Rattle.undo_log.proofs.history.History.apply.Goals as goal

pub invariant_of-self : goal.invariant_of-self
invariant_of-self g c = λ runs.
    edit_goes_on c.self.inside.session c.carry_out.new.session (nearest_first c.self.inside.back.items) (nearest_first c.carry_out.new.back.items) (nearest_first c.self.inside.on.items) (nearest_first c.carry_out.new.on.items)
    c.in-Ok.applied (plain_command c.args.command.now) c.in-Ok.ensures.carried.0 c.in-Ok.ensures.noted (c.self.invariant runs)

pub returns-in-Ok-clause-taken : goal.returns-in-Ok-clause-taken
returns-in-Ok-clause-taken g c =
    let command = plain_command c.args.command.now in
    let was = c.self.invariant c.if-self.false in
    let before = plain c.self.inside.session (nearest_first c.self.inside.back.items) (nearest_first c.self.inside.on.items) c.self.inside.stopped in
    let after = plain c.carry_out.new.session (nearest_first c.carry_out.new.back.items) (nearest_first c.carry_out.new.on.items) c.self.inside.stopped in (
      subst (λ (h : PlainHistory). IsHistoryStepTaken h after (edit command) c.in-Ok.applied) c.self.view_is
          (edit_taken before after command c.in-Ok.applied c.in-Ok.ensures.carried.0 c.in-Ok.ensures.noted c.if-self.false c.if-self.false (was.past, was.ways)),
      c.in-Ok.ensures.carried.1,
    )
