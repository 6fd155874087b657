use Rattle.std.proofs.Common.{◌≡◌, ℤ, pos, w64, unsigned_abs, sym, ap, ◌∙◌, Some}
use Rattle.std.proofs.lemmas.Int.{to_z-of_z}
use Rattle.exact_dec.specs.Computed.{near, answer_of, ratio_near_answer}
use Rattle.exact_dec.specs.DecimalAnswers.{is_no_half}
use Rattle.exact_dec.specs.Spelled.{spelled}
use Rattle.exact_dec.proofs.Laws.{ratio_near_law}
use Rattle.exact_dec.proofs.Rounding.{pos_abs}
use Rattle.exact_dec.proofs.ratio_near.Goals as goal

pub returns-in-Some-clause-computed : goal.returns-in-Some-clause-computed
unfolding ratio_near_answer
returns-in-Some-clause-computed c =
    let whole : pos c.unsigned_abs.result ≡ c.args.of = ap pos (c.unsigned_abs.ensures.value ∙ ap unsigned_abs (to_z-of_z w64 c.args.of c.ranges.of)) ∙ pos_abs c.args.of c.requires.from_zero in
    c.ratio.ensures
    ∙ (ap (λ (k : ℤ). answer_of c.args.text.now k near is_no_half (Some (spelled c.in-Some.parts))) whole
    ∙ ap (answer_of c.args.text.now c.args.of near is_no_half) (sym c.in-Some.ensures.parts))

pub returns-in-Some-clause-reads : goal.returns-in-Some-clause-reads
returns-in-Some-clause-reads c = ratio_near_law c.args.text.now c.args.of c.ratio.result (returns-in-Some-clause-computed c)

pub returns-in-None-clause-computed : goal.returns-in-None-clause-computed
unfolding ratio_near_answer
returns-in-None-clause-computed c = ap (answer_of c.args.text.now c.args.of near is_no_half) (sym c.in-None.ensures.parts)

pub returns-in-None-clause-reads : goal.returns-in-None-clause-reads
returns-in-None-clause-reads c = ratio_near_law c.args.text.now c.args.of _ (returns-in-None-clause-computed c)
