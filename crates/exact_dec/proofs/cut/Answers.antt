use Rattle.std.proofs.Common.{pos, sym, ◌∙◌}
use Rattle.exact_dec.specs.DecimalAnswers.{no_more}
use Rattle.exact_dec.specs.Spelled.{spelled}
use Rattle.exact_dec.specs.Decimal.{cut}
use Rattle.exact_dec.proofs.Answering.{long_answer, bounded_answer, cut_is, cut_above}
use Rattle.exact_dec.proofs.cut.Goals as goal

pub returns-then-is_long : goal.returns-then-is_long
returns-then-is_long c = long_answer c.args.text.now (pos c.args.unit) cut no_more (spelled c.args.parts.now) (sym c.is_long.ensures ∙ c.if-is_long.true)

pub returns-in-Some : goal.returns-in-Some
returns-in-Some c =
    c.bounded.ensures
    ∙ bounded_answer c.args.text.now c.args.unit c.in-Some.quotient.whole cut (spelled c.args.parts.now) (sym c.is_long.ensures ∙ c.if-is_long.false)
    (cut_is c.args.unit c.in-Some.quotient.whole c.in-Some.quotient.exact (spelled c.args.parts.now) c.in-Some.ensures.1)

pub returns-in-None : goal.returns-in-None
returns-in-None c = cut_above c.args.text.now c.args.unit (spelled c.args.parts.now) c.in-None.ensures (c.requires.reach c.in-None.ensures)
