use Rattle.std.proofs.Common.{arith, ◌∙◌, sym, refl, get_or, eqb}
use Rattle.std.proofs.lemmas.Bool.{eq-eqb, ne_eqb}
use Rattle.json_exact.specs.Characters.{escape, digits, whole, refused, is_short}
use Rattle.std.proofs.Common.{cond}
use Rattle.json_exact.proofs.Scanning.{way_on, stop_here, on, off}
use Rattle.json_exact.proofs.strings.escape_end.Goals as goal

pub returns-then-b-eq117 : goal.returns-then-b-eq117
returns-then-b-eq117 c =
    let b = get_or c.args.text.now c.args.at 0 in
    way_on escape digits c.args.text.now c.args.at c.digits_end.result (omega arith) (λ e. cc)
    (off (is_short b) whole (cond (eqb b 117) digits refused) digits (sym c.is_short.ensures ∙ c.if-is_short.false) (on (eqb b 117) digits refused digits (eq-eqb b 117 c.if-b-eq117.true) refl))
    c.digits_end.ensures

pub returns-else-b-eq117 : goal.returns-else-b-eq117
returns-else-b-eq117 c =
    let b = get_or c.args.text.now c.args.at 0 in
    stop_here escape c.args.text.now c.args.at (omega arith) (λ e. cc) (λ e. cc)
    (off (is_short b) whole (cond (eqb b 117) digits refused) refused (sym c.is_short.ensures ∙ c.if-is_short.false) (off (eqb b 117) digits refused refused (ne_eqb b 117 c.if-b-eq117.false) refl))
