use Rattle.std.proofs.Common.{◌≡◌, ◌*◌, ◌^◌, ◌<◌, ◌++◌, length, ap, arith}
use Rattle.std.proofs.Math.Nat.{le-mul_of_pos_right}
use Rattle.exact_dec.specs.Decimal.{number}
use Rattle.exact_dec.proofs.Digits.{number-append, pow10_pos}
use Rattle.exact_dec.proofs.parts.is_zero.Goals as goal

pub returns-then-are_zeros : goal.returns-then-are_zeros
returns-then-are_zeros c =
    let first : number c.args.parts.now.whole.now ≡ 0 = c.if-are_zeros.ensures in
    let whole : number (c.args.parts.now.whole.now ++ c.args.parts.now.fraction.now) ≡ number c.args.parts.now.fraction.now = omega (arith, number-append c.args.parts.now.whole.now c.args.parts.now.fraction.now, ap (λ x. x * 10 ^ length c.args.parts.now.fraction.now) first) in
    rw whole c.are_zeros-then-are_zeros.ensures

pub returns-else-are_zeros : goal.returns-else-are_zeros
returns-else-are_zeros c =
    let first : 0 < number c.args.parts.now.whole.now = c.if-are_zeros.ensures in
    let whole : 0 < number (c.args.parts.now.whole.now ++ c.args.parts.now.fraction.now) = omega (arith, number-append c.args.parts.now.whole.now c.args.parts.now.fraction.now, le-mul_of_pos_right (number c.args.parts.now.whole.now) (pow10_pos (length c.args.parts.now.fraction.now))) in
    rw c.if-are_zeros.false whole
