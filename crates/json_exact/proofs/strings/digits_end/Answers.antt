use Rattle.std.proofs.Common.{arith, ◌∙◌, sym, refl, get_or, cond}
use Rattle.json_exact.specs.Characters.{digits, surrogate, one, two_digits, whole, refused, is_d, is_hex}
use Rattle.json_exact.proofs.Scanning.{way_on, stop_here, on, off}
use Rattle.json_exact.proofs.strings.digits_end.Goals as goal

pub returns-then-is_d : goal.returns-then-is_d
returns-then-is_d c =
    let b = get_or c.args.text.now c.args.at 0 in
    way_on digits surrogate c.args.text.now c.args.at c.surrogate_end.result (omega arith) (λ e. cc)
    (on (is_d b) surrogate (cond (is_hex b) (one is_hex (two_digits whole)) refused) surrogate (sym c.is_d.ensures ∙ c.if-is_d.true) refl)
    c.surrogate_end.ensures

pub returns-then-is_hex : goal.returns-then-is_hex
returns-then-is_hex c =
    let b = get_or c.args.text.now c.args.at 0 in
    way_on digits (one is_hex (two_digits whole)) c.args.text.now c.args.at c.row_end.result (omega arith) (λ e. cc)
    (off (is_d b) surrogate (cond (is_hex b) (one is_hex (two_digits whole)) refused) (one is_hex (two_digits whole)) (sym c.is_d.ensures ∙ c.if-is_d.false)
    (on (is_hex b) (one is_hex (two_digits whole)) refused (one is_hex (two_digits whole)) (sym c.is_hex.ensures ∙ c.if-is_hex.true) refl))
    c.row_end.ensures

pub returns-else-is_hex : goal.returns-else-is_hex
returns-else-is_hex c =
    let b = get_or c.args.text.now c.args.at 0 in
    stop_here digits c.args.text.now c.args.at (omega arith) (λ e. cc) (λ e. cc)
    (off (is_d b) surrogate (cond (is_hex b) (one is_hex (two_digits whole)) refused) refused (sym c.is_d.ensures ∙ c.if-is_d.false)
    (off (is_hex b) (one is_hex (two_digits whole)) refused refused (sym c.is_hex.ensures ∙ c.if-is_hex.false) refl))
