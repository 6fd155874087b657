use Rattle.std.proofs.Common.{rules, arith, ◌≡◌, ◌+◌, ◌<◌, ◌≤◌, true, length, get_or, ◌∙◌, ap}
use Rattle.std.specs.Char.{is_ascii_digit}
use Rattle.exact_dec.proofs.UsualSpelling.{prefix_step, after_step, number_step, small_step}
use Rattle.exact_dec.proofs.short.leading.Goals as goal

pub digits-preserved : goal.digits-preserved
digits-preserved c =
    let inside : c.digits.count < length c.args.text.now = search rules in
    let digit : is_ascii_digit (get_or c.args.text.now c.digits.count 0) ≡ true = search rules in
    let prefix = prefix_step c.args.text.now c.digits.count inside digit in
    let below : get_or c.args.text.now c.digits.count 0 ≤ 57 = grind arith in
    record {
      in_range = search rules;
      most = search rules;
      number = rw c.from.ensures (number_step c.digits.n _ _ _ _ prefix c.digits.invariant.number);
      count = c.digits.invariant.count ∙ (ap (λ l. c.digits.count + length l) prefix ∙ omega arith);
      back = c.digits.invariant.back ∙ after_step c.args.text.now c.digits.count inside digit;
      small = rw c.from.ensures (small_step c.digits.n _ c.digits.count below c.digits.invariant.small);
    }
