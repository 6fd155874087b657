use Rattle.std.proofs.Common.{sym, arith, ◌<◌, length}
use Rattle.std.proofs.lemmas.Bool.{eqb-true, eqb-false}
use Rattle.net_class.proofs.Searching.{run_false, run_short, found_star, found_end}
use Rattle.net_class.proofs.patterns.whole_run.Goals as goal

pub returns-in_err-rests-clause-found : goal.returns-in_err-rests-clause-found
returns-in_err-rests-clause-found c = rw c.from_residual.ensures (run_false c.args.fold c.args.pattern.now c.args.name.now c.in_err-rests.ensures.run)

pub returns-then-not-is_empty-clause-found : goal.returns-then-not-is_empty-clause-found
returns-then-not-is_empty-clause-found c =
    let some : 0 < length c.in_ok-rests.rests.pattern.now = omega (arith, eqb-false _ 0 (sym c.if-not-is_empty.ensures)) in
    found_star c.args.fold c.args.pattern.now c.in_ok-rests.rests.pattern.now c.args.name.now c.in_ok-rests.rests.name.now c.in_ok-rests.ensures.run some (c.in_ok-rests.ensures.begins some)

pub returns-then-is_empty-clause-found : goal.returns-then-is_empty-clause-found
returns-then-is_empty-clause-found c =
    found_end c.args.fold c.args.pattern.now c.in_ok-rests.rests.pattern.now c.args.name.now c.in_ok-rests.rests.name.now c.in_ok-rests.ensures.run
    (eqb-true _ 0 (sym c.if-not-is_empty.ensures)) (eqb-true _ 0 (sym c.if-is_empty.ensures))

pub returns-clause-found : goal.returns-clause-found
returns-clause-found c =
    run_short c.args.fold c.args.pattern.now c.in_ok-rests.rests.pattern.now c.args.name.now c.in_ok-rests.rests.name.now c.in_ok-rests.ensures.run
    (eqb-true _ 0 (sym c.if-not-is_empty.ensures)) (omega (arith, eqb-false _ 0 (sym c.if-is_empty.ensures)))
