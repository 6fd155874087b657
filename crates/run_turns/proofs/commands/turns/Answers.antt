use Rattle.std.proofs.Common.{◌+◌, List, map, take, refl, sym, subst, arith}
use Rattle.std.proofs.lemmas.Result.{err_from_is_err_and}
use Rattle.edit_script.specs.Commands.{PlainCommand, plain_command}
use Rattle.edit_script.specs.Fits.{Fits}
use Rattle.run_output.specs.CommandOutputs.{IsTurn}
use Rattle.run_output.specs.RunResults.{SoFar}
use Rattle.run_output.proofs.Turning.{each_has, more_at, one_longer, more_taken, stopped_at}
use Rattle.run_turns.proofs.commands.turns.Goals as goal

pub turn-requires-clause-fits : goal.turn-requires-clause-fits
turn-requires-clause-fits g c κs within = each_has plain_command Fits c.args.commands.now c.loop-command.command-index c.command-item.result c.requires.fit (omega arith) c.command-item.is

pub returns-in_err-turn-clause-broken : goal.returns-in_err-turn-clause-broken
returns-in_err-turn-clause-broken g c =
    let p = err_from_is_err_and c.from_residual.result c.from_residual.ensures.1 in
    let k = c.loop-command.command-index in
    let broken = stopped_at (IsTurn c.args.way.short) c.args.session.now.state plain_command c.args.commands.now k c.command-item.result (omega arith) c.command-item.is c.loop-command.number c.loop-command.session.state _ _ _ _ _
    c.loop-command.invariant.1 c.in_err-turn.ensures.broken in
    rw (p.1) broken

pub loop-command-preserved : goal.loop-command-preserved
loop-command-preserved g c =
    let k = c.loop-command.command-index in
    let commands = c.args.commands.now in
    let command = plain_command c.command-item.result in
    let so = c.loop-command.invariant.1 in
    let one = more_taken (IsTurn c.args.way.short) c.args.session.now.state (map plain_command (take k commands)) k c.loop-command.number c.loop-command.session.state _ _ _ _ _ so c.turn.new.session.state (c.loop-command.number + 1) _ command
    refl c.in_ok-turn.ensures.taken c.in_ok-turn.ensures.later (one_longer (map plain_command (take k commands)) command k so.reached) in (
      c.in_ok-turn.ensures.running,
      subst (λ (done : List PlainCommand). SoFar (IsTurn c.args.way.short) c.args.session.now.state done (k + 1) (c.loop-command.number + 1) c.turn.new.session.state (g.W.Sink.written c.args.out.now) (g.W.Sink.written c.turn.new.out)
          (g.W.Sink.faults c.args.out.now) (g.W.Sink.faults c.turn.new.out)) (sym (more_at plain_command commands k c.command-item.result (omega arith) c.command-item.is)) one,
    )
