use Rattle.std.proofs.Common.{arith, sym, ◌∙◌, ap, ◌≡◌, ◌∷◌, ◌<◌, length, List}
use Rattle.std.proofs.lemmas.Bool.{eqb-true, eqb-false}
use Rattle.json_exact.specs.Json.{square, values}
use Rattle.json_exact.specs.JsonCells.{all_parts, first_value, other_cells}
use Rattle.json_exact.specs.declared.cells.Cell.{Cell}
use Rattle.json_exact.proofs.Decoding.{one_left, nothing_left, left_over}
use Rattle.json_exact.proofs.handles.ItemsIterator.next.Goals as goal

pub returns-then-is_empty-clause-steps : goal.returns-then-is_empty-clause-steps
returns-then-is_empty-clause-steps c =
    let none : length c.args.self.now.cells.now ≡ 0 = eqb-true _ 0 (sym c.is_empty.ensures ∙ c.if-is_empty.true) in
    (nothing_left c.args.self.now.text.now c.args.self.now.cells.now none, nothing_left c.args.self.now.text.now c.args.self.now.cells.now none)

pub returns-clause-steps : goal.returns-clause-steps
returns-clause-steps c =
    let some : length c.args.self.now.cells.now ≡ 0 → ⊥ = eqb-false _ 0 (sym c.is_empty.ensures ∙ c.if-is_empty.false) in
    let t = c.args.self.now.text.now in
    one_left t c.args.self.now.cells.now (omega (arith, some))
    ∙ ap (λ (x : List Cell). first_value t x ∷ values (all_parts t square (other_cells c.args.self.now.cells.now))) (sym c.own.ensures.is)
    ∙ ap (λ (x : List Cell). first_value t c.own.result.now ∷ values (all_parts t square x)) (sym c.others-self.ensures.is)

pub returns-clause-goes : goal.returns-clause-goes
returns-clause-goes c =
    let some : length c.args.self.now.cells.now ≡ 0 → ⊥ = eqb-false _ 0 (sym c.is_empty.ensures ∙ c.if-is_empty.false) in
    let t = c.args.self.now.text.now in
    let e = one_left t c.args.self.now.cells.now (omega (arith, some)) in
    let less : length (values (all_parts t square c.others-self.result.now)) < length (values (all_parts t square c.args.self.now.cells.now)) =
    omega (arith, left_over _ _ _ e, ap (λ (x : List Cell). length (values (all_parts t square x))) c.others-self.ensures.is) in
    record { on = λ f. (tt, tt, less); keeps = tt; rests = λ f. tt }

pub invariant_of-self : goal.invariant_of-self
invariant_of-self c = record { texts = c.others-self.ensures.texts c.args.self.now.text.now c.args.self.now.texts }

pub invariant_of-value : goal.invariant_of-value
invariant_of-value c = record { texts = c.own.ensures.texts c.args.self.now.text.now c.args.self.now.texts }
