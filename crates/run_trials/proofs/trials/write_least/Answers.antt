use Rattle.std.proofs.Common.{◌≡◌, ℕ, List, Option, Some, slice_get, refl, sym, subst}
use Rattle.what_if.specs.Trials.{IsLeast}
use Rattle.run_output.specs.RunResults.{IsLeastWritten}
use Rattle.run_trials.proofs.trials.write_least.Goals as goal

pub count_at-requires : goal.count_at-requires
count_at-requires g c = subst (λ (l : Option ℕ). IsLeast c.deref.result.now l) c.in-Some.is (subst (λ (xs : List (Option ℕ)). IsLeast xs c.args.survey.now.least) (sym c.deref.ensures.value) c.requires)

pub returns-in-Some : goal.returns-in-Some
returns-in-Some g c =
    let counts = c.args.survey.now.counts.items in
    let stands = subst (λ (xs : List (Option ℕ)). slice_get xs c.in-Some.place ≡ Some (Some c.count_at.result)) c.deref.ensures.value c.count_at.ensures in
    subst (λ (l : Option ℕ). IsLeastWritten counts l (g.W.Sink.written c.args.out.now) (g.W.Sink.written c.write_place.new.out) (g.W.Sink.faults c.args.out.now) (g.W.Sink.faults c.write_place.new.out) c.write_place.result) (sym c.in-Some.is)
    (record { text = _; is = (c.count_at.result, stands, refl); writes = c.write_place.ensures })

pub returns-in-None : goal.returns-in-None
returns-in-None g c =
    let counts = c.args.survey.now.counts.items in
    subst (λ (l : Option ℕ). IsLeastWritten counts l (g.W.Sink.written c.args.out.now) (g.W.Sink.written c.put_all.new.sink) (g.W.Sink.faults c.args.out.now) (g.W.Sink.faults c.put_all.new.sink) c.put_all.result) (sym c.in-None.is)
    (record { text = _; is = refl; writes = c.put_all.ensures })
