use Rattle.std.proofs.Common.{◌+◌, ◌⊎◌, ◌∙◌, List, Option, map, take, false, refl, sym, subst, arith, length-append, [], ◌∷◌, ◌++◌, ℕ}
use Rattle.std.specs.List.{AllZip}
use Rattle.std.specs.Io.KnownBytes.{Keeps}
use Rattle.std.proofs.lemmas.Result.{err_from_is_err_and}
use Rattle.edit_script.specs.Commands.{PlainCommand, plain_command}
use Rattle.edit_script.specs.Fits.{Fits}
use Rattle.drc_state.specs.States.{State}
use Rattle.what_if.specs.Trials.{IsCount}
use Rattle.run_output.specs.CommandOutputs.{IsTrial}
use Rattle.run_output.specs.RunResults.{IsTurnTaken, IsBroken, SoFar}
use Rattle.run_output.proofs.Turning.{each_has, more_at, one_longer, more_taken, stopped_at}
use Rattle.run_trials.proofs.TrialTexts.{zip_more}
use Rattle.run_trials.proofs.trials.turns.Goals as goal

pub turn-requires-clause-fits : goal.turn-requires-clause-fits
turn-requires-clause-fits g c κs within = each_has plain_command Fits c.args.commands.now c.loop-command.command-index c.command-item.result c.requires.fit (omega arith) c.command-item.is

pub returns-in_err-count-clause-broken : goal.returns-in_err-count-clause-broken
returns-in_err-count-clause-broken g c =
    let p = err_from_is_err_and c.from_residual.result c.from_residual.ensures.1 in
    let inv = c.loop-command.invariant in
    let here = subst (λ (s : State). Keeps (g.W.Sink.written c.loop-command.out) (g.W.Sink.written c.turn.new.out) ⊎ IsBroken (IsTrial s) (c.loop-command.number + 1) c.loop-command.comes (plain_command c.command-item.result)
    (g.W.Sink.written c.loop-command.out) (g.W.Sink.written c.turn.new.out)) inv.same c.in_err-count.ensures.broken in
    let broken = stopped_at (IsTrial c.args.session.now.state) false plain_command c.args.commands.now c.loop-command.command-index c.command-item.result (omega arith) c.command-item.is c.loop-command.number c.loop-command.comes _ _ _ _ _
    inv.so_far here in
    rw (p.1) broken

pub loop-command-preserved : goal.loop-command-preserved
loop-command-preserved g c =
    let k = c.loop-command.command-index in
    let commands = c.args.commands.now in
    let command = plain_command c.command-item.result in
    let inv = c.loop-command.invariant in
    let so = inv.so_far in
    let s = c.args.session.now.state in
    let done = sym (more_at plain_command commands k c.command-item.result (omega arith) c.command-item.is) in
    let taken = subst (λ (x : State). IsTurnTaken (IsTrial x) (c.loop-command.number + 1) c.loop-command.comes command c.turn.new.comes (g.W.Sink.written c.loop-command.out) (g.W.Sink.written c.turn.new.out)) inv.same
    c.in_ok-count.ensures.taken in
    let one = more_taken (IsTrial s) false (map plain_command (take k commands)) k c.loop-command.number c.loop-command.comes _ _ _ _ _ so c.turn.new.comes (c.loop-command.number + 1) _ command
    refl taken c.in_ok-count.ensures.later (one_longer (map plain_command (take k commands)) command k so.reached) in
    let count = c.in_ok-count.count in
    let is = subst (λ (x : State). IsCount x command count) inv.same c.in_ok-count.ensures.count in
    let more = length-append c.loop-command.counts.items (count ∷ []) in
    record {
      trial_context = c.in_ok-count.ensures.trial_context;
      same = c.in_ok-count.ensures.same ∙ inv.same;
      room = omega (arith, c.push_reserved.ensures.capacity, inv.room);
      long = omega (arith, c.push_reserved.ensures.len, more, inv.long);
      counted = subst (λ (xs : List PlainCommand). AllZip (IsCount s) xs c.push_reserved.new.self.items) done
          (subst (λ (ys : List (Option ℕ)). AllZip (IsCount s) (map plain_command (take k commands) ++ command ∷ []) ys) (sym c.push_reserved.ensures.items)
          (zip_more (IsCount s) (map plain_command (take k commands)) c.loop-command.counts.items command count inv.counted is));
      so_far = subst (λ (xs : List PlainCommand). SoFar (IsTrial s) false xs (k + 1) (c.loop-command.number + 1) c.turn.new.comes (g.W.Sink.written c.args.out.now) (g.W.Sink.written c.turn.new.out)
          (g.W.Sink.faults c.args.out.now) (g.W.Sink.faults c.turn.new.out)) done one;
    }
