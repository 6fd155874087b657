use Rattle.std.proofs.Common.{arith, ◌∙◌, sym, refl, get_or, cond}
use Rattle.json_exact.specs.Characters.{surrogate, two_digits, low_half, whole, refused, within, is_high_digit}
use Rattle.json_exact.proofs.Scanning.{way_on, stop_here, on, off}
use Rattle.json_exact.proofs.strings.surrogate_end.Goals as goal

pub returns-then-within : goal.returns-then-within
returns-then-within c =
    let b = get_or c.args.text.now c.args.at 0 in
    way_on surrogate (two_digits whole) c.args.text.now c.args.at c.row_end.result (omega arith) (λ e. cc)
    (on (within 48 55 b) (two_digits whole) (cond (is_high_digit b) (two_digits low_half) refused) (two_digits whole) (sym c.within.ensures ∙ c.if-within.true) refl)
    c.row_end.ensures

pub returns-then-is_high_digit : goal.returns-then-is_high_digit
returns-then-is_high_digit c =
    let b = get_or c.args.text.now c.args.at 0 in
    way_on surrogate (two_digits low_half) c.args.text.now c.args.at c.high_end.result (omega arith) (λ e. cc)
    (off (within 48 55 b) (two_digits whole) (cond (is_high_digit b) (two_digits low_half) refused) (two_digits low_half) (sym c.within.ensures ∙ c.if-within.false)
    (on (is_high_digit b) (two_digits low_half) refused (two_digits low_half) (sym c.is_high_digit.ensures ∙ c.if-is_high_digit.true) refl))
    c.high_end.ensures

pub returns-else-is_high_digit : goal.returns-else-is_high_digit
returns-else-is_high_digit c =
    let b = get_or c.args.text.now c.args.at 0 in
    stop_here surrogate c.args.text.now c.args.at (omega arith) (λ e. cc) (λ e. cc)
    (off (within 48 55 b) (two_digits whole) (cond (is_high_digit b) (two_digits low_half) refused) refused (sym c.within.ensures ∙ c.if-within.false)
    (off (is_high_digit b) (two_digits low_half) refused refused (sym c.is_high_digit.ensures ∙ c.if-is_high_digit.false) refl))
