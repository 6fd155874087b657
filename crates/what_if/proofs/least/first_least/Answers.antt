use Rattle.std.proofs.Common.{take, None, sym, subst}
use Rattle.std.proofs.lemmas.List.{length-take-le, take_more}
use Rattle.std.proofs.lemmas.List.{take_all}
use Rattle.what_if.specs.Fewest.{IsFewest}
use Rattle.what_if.proofs.least.first_least.Goals as goal

pub loop-place-preserved : goal.loop-place-preserved
loop-place-preserved c =
    let counts = c.args.counts.now in
    let i = c.loop-place.place in
    subst (λ cs. IsFewest cs c.fewer-fewest.result) (sym (take_more counts i None c.loop-place-test.true))
    (c.fewer-fewest.ensures (take i counts) (length-take-le i counts c.loop-place.auto.place-end) c.loop-place.invariant)

pub returns-in-None : goal.returns-in-None
returns-in-None c =
    let counts = c.args.counts.now in
    subst (λ cs. IsFewest cs None) (take_all c.loop-place.place counts c.loop-place-test.false) (subst (IsFewest (take c.loop-place.place counts)) c.in-None.is c.loop-place.invariant)
