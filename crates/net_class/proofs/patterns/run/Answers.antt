use Rattle.std.proofs.Common.{sym, ◌∙◌}
use Rattle.net_class.proofs.Matching.{run_here, run_none, run_some, run_end}
use Rattle.std.proofs.lemmas.List.{take_rest}
use Rattle.net_class.proofs.patterns.run.Goals as goal

pub returns-then-sign-eq42-clause-run : goal.returns-then-sign-eq42-clause-run
returns-then-sign-eq42-clause-run c =
    rw take_rest (sym c.loop-i.invariant ∙ run_here c.args.fold c.args.pattern.now c.loop-i.rest.now c.loop-i.i c.loop-i-test.true c.if-sign-eq42.true)

pub returns-in_err-rest-clause-run : goal.returns-in_err-rest-clause-run
returns-in_err-rest-clause-run c =
    rw c.from_residual.ensures (sym c.loop-i.invariant ∙ run_none c.args.fold c.args.pattern.now c.loop-i.rest.now c.loop-i.i c.loop-i-test.true c.if-sign-eq42.false (c.in_err-rest.ensures))

pub loop-i-preserved : goal.loop-i-preserved
loop-i-preserved c =
    run_some c.args.fold c.args.pattern.now c.loop-i.rest.now c.in_ok-rest.rest.now c.loop-i.i c.loop-i-test.true c.if-sign-eq42.false c.in_ok-rest.ensures ∙ c.loop-i.invariant

pub returns-clause-run : goal.returns-clause-run
returns-clause-run c = rw take_rest (sym c.loop-i.invariant ∙ run_end c.args.fold c.args.pattern.now c.loop-i.rest.now c.loop-i.i c.loop-i-test.false)
