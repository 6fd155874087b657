-- The answers for texts of the usual spelling.
use Rattle.std.proofs.Common.{◌≡◌, ℕ, ◌+◌, ◌*◌, Bool, true, false, List, pos, sym, ap, ◌∙◌, refl, arith}
use Rattle.std.proofs.Math.Nat.{div-add-mod'}
use Rattle.std.proofs.lemmas.Nat.{mod_below}
use Rattle.exact_dec.specs.Decimal.{cut, signed}
use Rattle.exact_dec.specs.Computed.{near, answer_of, mm_cut_answer, mm_near_answer}
use Rattle.exact_dec.specs.DecimalAnswers.{no_more}
use Rattle.exact_dec.specs.Spelled.{IsShortDecimal, IsQuotient, top, bottom, half}
use Rattle.exact_dec.proofs.Answering.{bounded, bounded_answer, bottom_some, cut_is, near_half}

half_exact : (negative : Bool) (n : ℕ) → half negative (2 * n) true ≡ n
half_exact true n = omega (arith, div-add-mod' (2 * n) 2, mod_below (2 * n) 2 (omega arith))
half_exact false n = omega (arith, div-add-mod' (2 * n + 1) 2, mod_below (2 * n + 1) 2 (omega arith))

pub usual_cut : (text : List ℕ) (negative : Bool) (n : ℕ) → IsShortDecimal text negative n → bounded negative n ≡ mm_cut_answer text
unfolding mm_cut_answer
usual_cut text negative n s =
    let p = s.parts in
    let exact : IsQuotient (1000000 * top p) (bottom p) n true = record { left = 0; divided = omega (arith, s.whole); small = bottom_some p; is_exact = refl } in
    ap (λ b. bounded b n) (sym s.sign)
    ∙ (bounded_answer text 1000000 n cut p s.limits (cut_is 1000000 n true p exact)
    ∙ ap (answer_of text (pos 1000000) cut no_more) (sym s.spelt))

pub usual_near : (text : List ℕ) (negative : Bool) (n : ℕ) → IsShortDecimal text negative n → bounded negative n ≡ mm_near_answer text
unfolding mm_near_answer
usual_near text negative n s =
    let p = s.parts in
    let exact : IsQuotient (2 * 1000000 * top p) (bottom p) (2 * n) true = record { left = 0; divided = omega (arith, s.whole); small = bottom_some p; is_exact = refl } in
    let rounded = near_half 1000000 (2 * n) true p exact ∙ ap (signed p.negative) (half_exact p.negative n) in
    ap (λ b. bounded b n) (sym s.sign)
    ∙ (bounded_answer text 1000000 n near p s.limits rounded
    ∙ ap (answer_of text (pos 1000000) near no_more) (sym s.spelt))
