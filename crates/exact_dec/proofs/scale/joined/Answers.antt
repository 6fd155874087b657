use Rattle.std.proofs.Common.{◌≡◌, ℕ, ◌+◌, ◌*◌, ◌^◌, ◌<◌, ◌≤◌, ◌++◌, length, arith, subst, MatchOption}
use Rattle.std.proofs.lemmas.Grind.{common_steps}
use Rattle.exact_dec.specs.Decimal.{number}
use Rattle.exact_dec.proofs.Scaling.{joined_is, joined_above, prefix_above}
use Rattle.exact_dec.proofs.scale.joined.Goals as goal

pub returns-in_err-whole : goal.returns-in_err-whole
returns-in_err-whole c =
    let above : 100000000 < number (c.args.prefix.now ++ c.args.back.now) * 10 ^ c.args.zeros = prefix_above 100000000 c.args.prefix.now c.args.back.now c.args.zeros c.in_err-whole.ensures in
    grind (arith, common_steps)

pub returns-in_err-whole-2 : goal.returns-in_err-whole-2
returns-in_err-whole-2 c =
    let is : c.in_ok-whole.whole * 10 ^ length c.args.back.now + number c.args.back.now ≡ number (c.args.prefix.now ++ c.args.back.now) = joined_is _ _ c.args.prefix.now c.args.back.now c.in_ok-whole.ensures.1 (λ i. c.in_ok-whole.whole * 10 ^ length c.args.back.now + number c.args.back.now) in
    let above : 100000000 < number (c.args.prefix.now ++ c.args.back.now) * 10 ^ c.args.zeros = joined_above 100000000 _ c.args.zeros (omega (arith, is, c.in_err-whole-2.ensures)) in
    grind (arith, common_steps)

pub returns : goal.returns
returns c =
    let is = joined_is _ _ c.args.prefix.now c.args.back.now c.in_ok-whole.ensures.1 c.in_ok-whole-2.ensures.1 in
    let P : ℕ → Type 0 = λ m. MatchOption c.push_zeros.result (100000000 < m * 10 ^ c.args.zeros) (λ n. (n ≤ 100000000) × (n ≡ m * 10 ^ c.args.zeros)) in
    subst P is c.push_zeros.ensures
