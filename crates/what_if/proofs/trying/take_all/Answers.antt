use Rattle.std.proofs.lemmas.Result.{err_from_is_err_and}
use Rattle.what_if.proofs.Leading.{lead_more, refusal_at, fits_at}
use Rattle.what_if.proofs.trying.take_all.Goals as goal

pub take_one-requires-clause-fits : goal.take_one-requires-clause-fits
take_one-requires-clause-fits g c κs within = fits_at c.args.commands.now c.loop-step.step c.index-commands-step.result c.loop-step-test.true c.index-commands-step.is c.requires.fit

pub returns-in_err-take_one-clause-refused : goal.returns-in_err-take_one-clause-refused
returns-in_err-take_one-clause-refused g c =
    let p = err_from_is_err_and c.from_residual.result c.from_residual.ensures.1 in
    rw (p.1, p.2) (refusal_at c.args.commands.now c.loop-step.step c.index-commands-step.result c.loop-step-test.true c.index-commands-step.is c.args.session.now.state c.loop-step.session.state c.in_err-take_one.field-0.0 c.loop-step.invariant.led c.in_err-take_one.ensures.refused)

pub loop-step-preserved : goal.loop-step-preserved
loop-step-preserved g c = record {
  running = c.in_ok-take_one.ensures.running;
  led = lead_more c.args.commands.now c.loop-step.step c.index-commands-step.result c.loop-step-test.true c.index-commands-step.is c.args.session.now.state c.loop-step.session.state c.take_one.new.session.state c.loop-step.invariant.led c.in_ok-take_one.ensures.answer;
}
