use Rattle.std.proofs.Common.{rules, arith, ◌≡◌, take, drop, length, ◌-◌, ◌∙◌, ap, sym, refl}
use Rattle.std.proofs.lemmas.List.{take_rest}
use Rattle.exact_dec.specs.Computed.{after_sign, prefix_digits, after_digits, point_digits, after_point}
use Rattle.exact_dec.specs.Decimal.{number}
use Rattle.exact_dec.proofs.UsualSpelling.{usual_is}
use Rattle.exact_dec.proofs.short.short.Goals as goal

pub returns : goal.returns
returns c =
    let text = c.args.text.now in
    let body = c.skip_sign-body.result.now in
    let count = c.in_ok-whole.whole.count in
    let rest : take (length body - count) (drop count body) ≡ after_digits (after_sign text) =
    take_rest body count ∙ (c.in_ok-whole.ensures.rest ∙ ap after_digits c.skip_sign-body.ensures) in
    rw c.begins_with_minus.ensures (usual_is text c.in_ok-whole.whole.n c.in_ok-fraction.fraction.n count c.in_ok-fraction.fraction.count c.place.result
    (omega arith)
    (ap after_point (sym rest) ∙ c.in_ok-fraction.ensures.end refl)
    (c.in_ok-whole.ensures.number ∙ ap (λ l. number (prefix_digits l)) c.skip_sign-body.ensures)
    (c.in_ok-whole.ensures.count ∙ ap (λ l. length (prefix_digits l)) c.skip_sign-body.ensures)
    (c.in_ok-fraction.ensures.number ∙ ap (λ l. number (point_digits l)) rest)
    (c.in_ok-fraction.ensures.count ∙ ap (λ l. length (point_digits l)) rest)
    (search rules)
    c.place.ensures)
