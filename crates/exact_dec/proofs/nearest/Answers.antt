use Rattle.std.proofs.Common.{pos, sym, ap, ◌∙◌}
use Rattle.exact_dec.specs.DecimalAnswers.{no_more}
use Rattle.exact_dec.specs.Spelled.{spelled, half}
use Rattle.exact_dec.specs.Computed.{near}
use Rattle.exact_dec.proofs.Answering.{bounded as bounded_by, long_answer, bounded_answer, near_half, near_above}
use Rattle.exact_dec.proofs.nearest.Goals as goal

pub returns-then-is_long : goal.returns-then-is_long
returns-then-is_long c = long_answer c.args.text.now (pos c.args.unit) near no_more (spelled c.args.parts.now) (sym c.is_long.ensures ∙ c.if-is_long.true)

pub returns-in-Some : goal.returns-in-Some
returns-in-Some c =
    c.bounded.ensures
    ∙ (ap (bounded_by c.args.parts.now.negative) c.half_up.ensures
    ∙ bounded_answer c.args.text.now c.args.unit (half c.args.parts.now.negative c.in-Some.halves.whole c.in-Some.halves.exact) near (spelled c.args.parts.now) (sym c.is_long.ensures ∙ c.if-is_long.false)
    (near_half c.args.unit c.in-Some.halves.whole c.in-Some.halves.exact (spelled c.args.parts.now) c.in-Some.ensures.1))

pub returns-in-None : goal.returns-in-None
returns-in-None c = near_above c.args.text.now c.args.unit (spelled c.args.parts.now) c.in-None.ensures (c.requires.reach c.in-None.ensures)
