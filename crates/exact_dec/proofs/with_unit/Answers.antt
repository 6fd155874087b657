use Rattle.std.proofs.Common.{◌≡◌, ◌<◌, ◌++◌, ◌⊎◌, ℕ, pos, sym, ap, ◌∙◌, Some, None, inl, inr, arith}
use Rattle.exact_dec.specs.Decimal.{number}
use Rattle.exact_dec.specs.Computed.{near, answer_of, parts_of, unit_of, before_unit, with_unit_answer}
use Rattle.exact_dec.specs.DecimalAnswers.{no_more}
use Rattle.exact_dec.specs.Spelled.{spelled}
use Rattle.exact_dec.proofs.Units.{with_unit_law, no_parts, bare_parts, unit_parts}
use Rattle.exact_dec.proofs.with_unit.Goals as goal
use Rattle.exact_dec.proofs.with_unit.Goals.{else-unit-eq0-via-then-unit-eq0+else-not-is_zero, else-unit-eq0-via-else-unit-eq0}

pub returns-in_default-clause-computed : goal.returns-in_default-clause-computed
unfolding with_unit_answer
returns-in_default-clause-computed c =
    let none : parts_of (before_unit c.args.text.now) ≡ None = ap parts_of (sym c.split_unit-unit.ensures.before) ∙ c.in_default.ensures.parts in
    ap (answer_of c.args.text.now (pos (unit_of c.args.text.now)) near no_more) (sym (no_parts c.args.text.now (unit_of c.args.text.now) (parts_of (before_unit c.args.text.now)) none))

pub returns-in_default-clause-reads : goal.returns-in_default-clause-reads
returns-in_default-clause-reads c = with_unit_law c.args.text.now _ (returns-in_default-clause-computed c)

pub returns-then-not-is_zero-clause-computed : goal.returns-then-not-is_zero-clause-computed
unfolding with_unit_answer
returns-then-not-is_zero-clause-computed c =
    let some : parts_of (before_unit c.args.text.now) ≡ Some (spelled c.in-Some.parts) = ap parts_of (sym c.split_unit-unit.ensures.before) ∙ c.in-Some.ensures.parts in
    let bare : unit_of c.args.text.now ≡ 0 = sym c.split_unit-unit.ensures.unit ∙ c.if-unit-eq0.true in
    ap (answer_of c.args.text.now (pos (unit_of c.args.text.now)) near no_more) (sym (bare_parts (unit_of c.args.text.now) (parts_of (before_unit c.args.text.now)) (spelled c.in-Some.parts) some bare c.if-not-is_zero.ensures))

pub returns-then-not-is_zero-clause-reads : goal.returns-then-not-is_zero-clause-reads
returns-then-not-is_zero-clause-reads c = with_unit_law c.args.text.now _ (returns-then-not-is_zero-clause-computed c)

pub returns-clause-computed : goal.returns-clause-computed
unfolding with_unit_answer
returns-clause-computed c =
    let some : parts_of (before_unit c.args.text.now) ≡ Some (spelled c.in-Some.parts) = ap parts_of (sym c.split_unit-unit.ensures.before) ∙ c.in-Some.ensures.parts in
    let given : (0 < unit_of c.args.text.now) ⊎ (number (c.in-Some.parts.whole.now ++ c.in-Some.parts.fraction.now) ≡ 0) =
    elim c.else-unit-eq0.branch [ else-unit-eq0-via-then-unit-eq0+else-not-is_zero w ↦ inr w.if-not-is_zero.ensures | else-unit-eq0-via-else-unit-eq0 w ↦ inl (omega (arith, c.split_unit-unit.ensures.unit, w.if-unit-eq0.false)) ] in
    c.nearest.ensures
    ∙ (ap (λ (n : ℕ). answer_of c.args.text.now (pos n) near no_more (Some (spelled c.in-Some.parts))) c.split_unit-unit.ensures.unit
    ∙ ap (answer_of c.args.text.now (pos (unit_of c.args.text.now)) near no_more) (sym (unit_parts (unit_of c.args.text.now) (parts_of (before_unit c.args.text.now)) (spelled c.in-Some.parts) some given)))

pub returns-clause-reads : goal.returns-clause-reads
returns-clause-reads c = with_unit_law c.args.text.now c.nearest.result (returns-clause-computed c)
