use Rattle.std.proofs.Common.{refl, sym, ap, subst, ◌∙◌, ℤ, pos, ◌≤ℤ◌, ◌*ℤ◌, false, arith}
use Rattle.int_algebra.proofs.Scalars.{passed_length, passed_to}
use Rattle.net_class.specs.NetClasses.{PlainMins}
use Rattle.rule_pick.specs.Deciding.{minimum}
use Rattle.kind_subjects.specs.LimitedLengths.{times}
use Rattle.pair_check.specs.Alone.{IsEnough}
use Rattle.pair_check.specs.CheckViews.{deciders_of}
use Rattle.pair_check.proofs.EnoughAlone.{minimum_enough}
use Rattle.pair_check.proofs.alone.enough_for.Goals as goal

pub returns : goal.returns
returns c =
    let view = c.args.view.now in
    let kind = c.args.kind in
    let least = c.board_minimum-least.ensures in
    let same = passed_length c.board_minimum-least.result least.in_range.from least.in_range.to in
    let value = c.counted.ensures.value ∙ ap (λ (z : ℤ). times kind *ℤ z) (same ∙ least.least ∙ ap (λ (m : PlainMins). minimum m false kind) c.mins.ensures) in
    let low = subst (λ (z : ℤ). pos 0 ≤ℤ z) value c.counted.ensures.from in
    let passed = passed_to c.counted.result (pos 1000000000) c.counted.ensures.from c.counted.ensures.to (omega arith) in
    subst (λ (z : ℤ). IsEnough (deciders_of view) kind z) (sym (passed ∙ value))
    (minimum_enough view.rules.now (deciders_of view) kind refl c.requires (sym c.some_asks.ensures ∙ c.if-some_asks.false) low)
