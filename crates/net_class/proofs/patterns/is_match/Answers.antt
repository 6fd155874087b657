use Rattle.std.proofs.Common.{sym, ◌∙◌, arith, ◌<◌, length, ap, List, ℕ}
use Rattle.std.proofs.lemmas.Bool.{eqb-true, eqb-false}
use Rattle.std.proofs.lemmas.List.{take_rest}
use Rattle.net_class.specs.PatternRuns.{matches_an_end}
use Rattle.net_class.proofs.Searching.{run_false, run_true, star_is, end_is_match}
use Rattle.net_class.proofs.patterns.is_match.Goals as goal

pub returns-in_default : goal.returns-in_default
returns-in_default c = sym (run_false c.args.fold c.args.pattern.now c.args.name.now c.in_default.ensures.run)

pub stars-init : goal.stars-init
stars-init c = record {
  same = sym (run_true c.args.fold c.args.pattern.now c.in-Some.rests.pattern.now c.args.name.now c.in-Some.rests.name.now c.in-Some.ensures.run);
  begins = c.in-Some.ensures.begins;
}

pub stars-preserved : goal.stars-preserved
stars-preserved c =
    let some : 0 < length c.stars.rests.pattern.now = omega (arith, eqb-false _ 0 (sym c.stars-test.ensures)) in
    record {
      same = sym c.in-Some-search.ensures.found ∙ ap (λ (x : List ℕ). matches_an_end c.args.fold x c.stars.rests.name.now) (take_rest c.stars.rests.pattern.now 1)
          ∙ sym (star_is c.args.fold c.stars.rests.pattern.now c.stars.rests.name.now some (c.stars.invariant.begins some)) ∙ c.stars.invariant.same;
      begins = c.in-Some-search.ensures.begins;
    }

pub returns-in-None : goal.returns-in-None
returns-in-None c =
    let some : 0 < length c.stars.rests.pattern.now = omega (arith, eqb-false _ 0 (sym c.stars-test.ensures)) in
    sym c.in-None.ensures.found ∙ ap (λ (x : List ℕ). matches_an_end c.args.fold x c.stars.rests.name.now) (take_rest c.stars.rests.pattern.now 1)
    ∙ sym (star_is c.args.fold c.stars.rests.pattern.now c.stars.rests.name.now some (c.stars.invariant.begins some)) ∙ c.stars.invariant.same

pub returns : goal.returns
returns c = c.is_empty-whole.ensures ∙ sym (end_is_match c.args.fold c.stars.rests.pattern.now c.stars.rests.name.now (eqb-true _ 0 (sym c.stars-test.ensures))) ∙ c.stars.invariant.same
