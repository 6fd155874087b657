use Rattle.std.proofs.Common.{◌+◌, List, map, take, sym, subst, arith}
use Rattle.std.proofs.lemmas.Result.{err_from_is_err_and}
use Rattle.edit_script.specs.Commands.{PlainStep, plain_step}
use Rattle.edit_script.specs.Fits.{StepFits}
use Rattle.run_output.specs.RunResults.{AreStepsSoFar}
use Rattle.run_output.proofs.Turning.{each_has, more_at}
use Rattle.run_turns.proofs.Stepping.{more_steps, stopped_steps}
use Rattle.run_turns.proofs.steps.steps.Goals as goal

pub step-requires-clause-fits : goal.step-requires-clause-fits
step-requires-clause-fits g c κs within = each_has plain_step StepFits c.args.steps.now c.loop-one.one-index c.one-item.result c.requires.fit (omega arith) c.one-item.is

pub returns-in_err-step-clause-broken : goal.returns-in_err-step-clause-broken
returns-in_err-step-clause-broken g c =
    let p = err_from_is_err_and c.from_residual.result c.from_residual.ensures.1 in
    let k = c.loop-one.one-index in
    let broken = stopped_steps plain_step c.args.steps.now k c.one-item.result (omega arith) c.one-item.is c.args.history.now c.loop-one.number c.loop-one.history _ _ _ _ _ c.loop-one.invariant c.in_err-step.ensures.broken in
    rw (p.1) broken

pub loop-one-preserved : goal.loop-one-preserved
loop-one-preserved g c =
    let k = c.loop-one.one-index in
    let steps = c.args.steps.now in
    let step = plain_step c.one-item.result in
    let more = more_steps c.args.history.now (map plain_step (take k steps)) k c.loop-one.number c.loop-one.history _ _ _ _ _ c.loop-one.invariant c.step.new.history _ step c.in_ok-step.ensures.taken c.in_ok-step.ensures.running
    c.in_ok-step.ensures.later in
    subst (λ (done : List PlainStep). AreStepsSoFar c.args.history.now done (k + 1) (c.loop-one.number + 1) c.step.new.history (g.W.Sink.written c.args.out.now) (g.W.Sink.written c.step.new.out)
    (g.W.Sink.faults c.args.out.now) (g.W.Sink.faults c.step.new.out)) (sym (more_at plain_step steps k c.one-item.result (omega arith) c.one-item.is)) more
