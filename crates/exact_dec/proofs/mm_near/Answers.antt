use Rattle.std.proofs.Common.{pos, sym, ap, ◌∙◌}
use Rattle.exact_dec.specs.Computed.{near}
use Rattle.exact_dec.specs.Computed.{answer_of, mm_near_answer}
use Rattle.exact_dec.specs.DecimalAnswers.{no_more}
use Rattle.exact_dec.proofs.Laws.{mm_near_law}
use Rattle.exact_dec.proofs.UsualAnswers.{usual_near}
use Rattle.exact_dec.proofs.mm_near.Goals as goal

pub returns-in-Some-clause-computed : goal.returns-in-Some-clause-computed
returns-in-Some-clause-computed c = c.bounded.ensures ∙ usual_near _ _ _ c.in-Some.ensures

pub returns-in-Some-clause-reads : goal.returns-in-Some-clause-reads
returns-in-Some-clause-reads c = mm_near_law c.args.text.now c.bounded.result (returns-in-Some-clause-computed c)

pub returns-in-Some-take_apart-clause-computed : goal.returns-in-Some-take_apart-clause-computed
unfolding mm_near_answer
returns-in-Some-take_apart-clause-computed c = c.nearest.ensures ∙ ap (answer_of c.args.text.now (pos 1000000) near no_more) (sym c.in-Some-take_apart.ensures.parts)

pub returns-in-Some-take_apart-clause-reads : goal.returns-in-Some-take_apart-clause-reads
returns-in-Some-take_apart-clause-reads c = mm_near_law c.args.text.now c.nearest.result (returns-in-Some-take_apart-clause-computed c)

pub returns-in-None-clause-computed : goal.returns-in-None-clause-computed
unfolding mm_near_answer
returns-in-None-clause-computed c = ap (answer_of c.args.text.now (pos 1000000) near no_more) (sym c.in-None.ensures.parts)

pub returns-in-None-clause-reads : goal.returns-in-None-clause-reads
returns-in-None-clause-reads c = mm_near_law c.args.text.now _ (returns-in-None-clause-computed c)
