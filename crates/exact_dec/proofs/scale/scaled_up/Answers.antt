use Rattle.std.proofs.Common.{arith, ℕ, List, ◌+◌, ◌-◌, ◌*◌, ◌^◌, ◌<◌, ◌≤◌, ◌++◌, length, sym, ap, ◌∙◌, subst}
use Rattle.std.proofs.Math.Nat.{mul-le-mul_right}
use Rattle.std.proofs.lemmas.Grind.{common_steps}
use Rattle.std.specs.Str.{all_ascii_digits}
use Rattle.exact_dec.specs.Decimal.{number}
use Rattle.exact_dec.specs.Spelled.{IsQuotient}
use Rattle.exact_dec.proofs.Scaling.{digits-take, digits-drop, prefix_parted, up_above, up_quotient, nothing_left}
use Rattle.exact_dec.proofs.scale.scaled_up.Goals as goal

pub joined-requires-clause-back : goal.joined-requires-clause-back
joined-requires-clause-back c = ap all_ascii_digits c.split_at.ensures.front ∙ digits-take c.min-moved.result c.args.parts.now.fraction.now c.requires.digits.fraction

pub returns-in_err-whole : goal.returns-in_err-whole
returns-in_err-whole c =
    let parted = prefix_parted c.min-moved.result c.args.by c.args.parts.now.fraction.now _ _ c.min-moved.ensures c.split_at.ensures.front c.split_at.ensures.back in
    let P : List ℕ → Type 0 = λ x. 100000000 * 10 ^ length x < number (c.args.parts.now.whole.now ++ x) * 10 ^ c.args.by in
    let above : 100000000 * 10 ^ length c.args.parts.now.fraction.now < number (c.args.parts.now.whole.now ++ c.args.parts.now.fraction.now) * 10 ^ c.args.by = subst P parted.0 (up_above c.args.parts.now.whole.now c.split_at.result.0.now c.split_at.result.1.now (c.args.by - c.min-moved.result) c.args.by parted.1 c.in_err-whole.ensures) in
    grind (arith, common_steps)

pub digits_behind-rest-requires-clause-digits : goal.digits_behind-rest-requires-clause-digits
digits_behind-rest-requires-clause-digits c = ap all_ascii_digits c.split_at.ensures.back ∙ digits-drop c.min-moved.result c.args.parts.now.fraction.now c.requires.digits.fraction

pub returns : goal.returns
returns c =
    let parted = prefix_parted c.min-moved.result c.args.by c.args.parts.now.fraction.now _ _ c.min-moved.ensures c.split_at.ensures.front c.split_at.ensures.back in
    let P : List ℕ → Type 0 = λ x. IsQuotient (c.args.unit * (number (c.args.parts.now.whole.now ++ x) * 10 ^ c.args.by)) (10 ^ length x) (c.in_ok-whole.whole * c.args.unit + c.digits_behind-rest.result.whole) c.digits_behind-rest.result.exact in
    let Q : ℕ → Type 0 = λ n. IsQuotient (c.args.unit * (number (c.args.parts.now.whole.now ++ (c.split_at.result.0.now ++ c.split_at.result.1.now)) * 10 ^ c.args.by)) (10 ^ length (c.split_at.result.0.now ++ c.split_at.result.1.now)) (n * c.args.unit + c.digits_behind-rest.result.whole) c.digits_behind-rest.result.exact in
    let quotient = up_quotient c.args.parts.now.whole.now c.split_at.result.0.now c.split_at.result.1.now (c.args.by - c.min-moved.result) c.args.by c.args.unit c.digits_behind-rest.result.whole c.digits_behind-rest.result.exact parted.1 parted.2 (c.digits_behind-rest.ensures.divides 0 0 nothing_left) in
    let most : c.in_ok-whole.whole ≤ 100000000 = c.in_ok-whole.ensures.0 in
    (omega (arith, mul-le-mul_right c.args.unit most, c.digits_behind-rest.ensures.below), subst P parted.0 (subst Q (sym c.in_ok-whole.ensures.1) quotient))
