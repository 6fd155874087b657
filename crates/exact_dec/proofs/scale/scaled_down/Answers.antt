use Rattle.std.proofs.Common.{arith, ◌≡◌, ℕ, List, ◌+◌, ◌-◌, ◌*◌, ◌^◌, ◌<◌, ◌≤◌, ◌++◌, length, ap, ◌∙◌, subst}
use Rattle.std.proofs.Math.Nat.{mul-le-mul_right}
use Rattle.std.proofs.lemmas.Grind.{common_steps}
use Rattle.std.specs.Str.{all_ascii_digits}
use Rattle.exact_dec.specs.Decimal.{number}
use Rattle.exact_dec.specs.Spelled.{IsQuotient}
use Rattle.exact_dec.proofs.Scaling.{digits-take, digits-drop, back_parted, down_above, down_quotient, nothing_left}
use Rattle.exact_dec.proofs.scale.scaled_down.Goals as goal

pub push_digits-requires-clause-digits : goal.push_digits-requires-clause-digits
push_digits-requires-clause-digits c = ap all_ascii_digits c.split_at.ensures.front ∙ digits-take (length c.args.parts.now.whole.now - c.min-moved.result) c.args.parts.now.whole.now c.requires.digits.whole

pub returns-in_err-whole : goal.returns-in_err-whole
returns-in_err-whole c =
    let parted = back_parted c.min-moved.result c.args.by c.args.parts.now.whole.now _ _ c.min-moved.ensures c.split_at.ensures.front c.split_at.ensures.back in
    let P : List ℕ → Type 0 = λ x. 100000000 * 10 ^ (length c.args.parts.now.fraction.now + c.args.by) < number (x ++ c.args.parts.now.fraction.now) in
    let ahead : 100000000 < number c.split_at.result.0.now = omega (arith, c.in_err-whole.ensures) in
    let above : 100000000 * 10 ^ (length c.args.parts.now.fraction.now + c.args.by) < number (c.args.parts.now.whole.now ++ c.args.parts.now.fraction.now) = subst P parted.0 (down_above c.split_at.result.0.now c.split_at.result.1.now c.args.parts.now.fraction.now (c.args.by - c.min-moved.result) c.args.by parted.1 parted.2 ahead) in
    grind (arith, common_steps)

pub digits_behind-rest-requires-2-clause-digits : goal.digits_behind-rest-requires-2-clause-digits
digits_behind-rest-requires-2-clause-digits c = ap all_ascii_digits c.split_at.ensures.back ∙ digits-drop (length c.args.parts.now.whole.now - c.min-moved.result) c.args.parts.now.whole.now c.requires.digits.whole

pub returns : goal.returns
returns c =
    let parted = back_parted c.min-moved.result c.args.by c.args.parts.now.whole.now _ _ c.min-moved.ensures c.split_at.ensures.front c.split_at.ensures.back in
    let P : List ℕ → Type 0 = λ x. IsQuotient (c.args.unit * number (x ++ c.args.parts.now.fraction.now)) (10 ^ (length c.args.parts.now.fraction.now + c.args.by)) (c.in_ok-whole.whole * c.args.unit + c.zeros_behind-rest.result.whole) c.zeros_behind-rest.result.exact in
    let Q : ℕ → Type 0 = λ n. IsQuotient (c.args.unit * number ((c.split_at.result.0.now ++ c.split_at.result.1.now) ++ c.args.parts.now.fraction.now)) (10 ^ (length c.args.parts.now.fraction.now + c.args.by)) (n * c.args.unit + c.zeros_behind-rest.result.whole) c.zeros_behind-rest.result.exact in
    let behind = c.zeros_behind-rest.ensures.divides _ _ (c.digits_behind-rest-2.ensures.divides _ _ (c.digits_behind-rest.ensures.divides 0 0 nothing_left)) in
    let quotient = down_quotient c.split_at.result.0.now c.split_at.result.1.now c.args.parts.now.fraction.now (c.args.by - c.min-moved.result) c.args.by c.args.unit c.zeros_behind-rest.result.whole c.zeros_behind-rest.result.exact parted.1 parted.2 behind in
    let most : c.in_ok-whole.whole ≤ 100000000 = c.in_ok-whole.ensures.0 in
    let whole : number c.split_at.result.0.now ≡ c.in_ok-whole.whole = omega (arith, c.in_ok-whole.ensures.1) in
    (omega (arith, mul-le-mul_right c.args.unit most, c.zeros_behind-rest.ensures.below), subst P parted.0 (subst Q whole quotient))
