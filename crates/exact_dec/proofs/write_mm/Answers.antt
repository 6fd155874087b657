use Rattle.std.proofs.Common.{◌≡◌, ◌/◌, ◌%◌, ◌≤◌, ◌∷◌, [], ◌++◌, length, unsigned_abs, w64, sym, ap, ◌∙◌, arith}
use Rattle.std.specs.Prelude.{decimal}
use Rattle.std.proofs.lemmas.Int.{to_z-of_z}
use Rattle.exact_dec.specs.MillimetreText.{minus_sign, six_digits, mm_text}
use Rattle.exact_dec.proofs.Texts.{minus_short, whole_short, joined_text, length_text}
use Rattle.exact_dec.proofs.write_mm.Goals as goal

pub put-at-requires-2 : goal.put-at-requires-2
put-at-requires-2 c =
    let same = to_z-of_z w64 c.args.nm c.ranges.nm in
    let sign : c.sign.result.now ≡ minus_sign c.args.nm = c.sign.ensures ∙ ap minus_sign same in
    let abs : c.unsigned_abs-nanometres.result ≡ unsigned_abs c.args.nm = c.unsigned_abs-nanometres.ensures.value ∙ ap unsigned_abs same in
    let whole : c.as_bytes.result.now ≡ decimal (unsigned_abs c.args.nm / 1000000) = c.as_bytes.ensures.value ∙ (c.format.ensures.text ∙ ap (λ n. decimal (n / 1000000)) abs) in
    let sign_short : length c.sign.result.now ≤ 1 = omega (arith, ap length sign, minus_short c.args.nm) in
    let short : length c.as_bytes.result.now ≤ 7 = omega (arith, ap length whole, whole_short (unsigned_abs c.args.nm) c.requires) in
    omega arith

pub put-at-requires-3 : goal.put-at-requires-3
put-at-requires-3 c =
    let same = to_z-of_z w64 c.args.nm c.ranges.nm in
    let sign : c.sign.result.now ≡ minus_sign c.args.nm = c.sign.ensures ∙ ap minus_sign same in
    let abs : c.unsigned_abs-nanometres.result ≡ unsigned_abs c.args.nm = c.unsigned_abs-nanometres.ensures.value ∙ ap unsigned_abs same in
    let whole : c.as_bytes.result.now ≡ decimal (unsigned_abs c.args.nm / 1000000) = c.as_bytes.ensures.value ∙ (c.format.ensures.text ∙ ap (λ n. decimal (n / 1000000)) abs) in
    let sign_short : length c.sign.result.now ≤ 1 = omega (arith, ap length sign, minus_short c.args.nm) in
    let short : length c.as_bytes.result.now ≤ 7 = omega (arith, ap length whole, whole_short (unsigned_abs c.args.nm) c.requires) in
    omega arith

pub put-requires : goal.put-requires
put-requires c =
    let same = to_z-of_z w64 c.args.nm c.ranges.nm in
    let sign : c.sign.result.now ≡ minus_sign c.args.nm = c.sign.ensures ∙ ap minus_sign same in
    let abs : c.unsigned_abs-nanometres.result ≡ unsigned_abs c.args.nm = c.unsigned_abs-nanometres.ensures.value ∙ ap unsigned_abs same in
    let whole : c.as_bytes.result.now ≡ decimal (unsigned_abs c.args.nm / 1000000) = c.as_bytes.ensures.value ∙ (c.format.ensures.text ∙ ap (λ n. decimal (n / 1000000)) abs) in
    let sign_short : length c.sign.result.now ≤ 1 = omega (arith, ap length sign, minus_short c.args.nm) in
    let short : length c.as_bytes.result.now ≤ 7 = omega (arith, ap length whole, whole_short (unsigned_abs c.args.nm) c.requires) in
    omega (arith, ap length c.last_six.ensures)

pub returns-clause-prefix : goal.returns-clause-prefix
unfolding mm_text
returns-clause-prefix c =
    let same = to_z-of_z w64 c.args.nm c.ranges.nm in
    let sign : c.sign.result.now ≡ minus_sign c.args.nm = c.sign.ensures ∙ ap minus_sign same in
    let abs : c.unsigned_abs-nanometres.result ≡ unsigned_abs c.args.nm = c.unsigned_abs-nanometres.ensures.value ∙ ap unsigned_abs same in
    let whole : c.as_bytes.result.now ≡ decimal (unsigned_abs c.args.nm / 1000000) = c.as_bytes.ensures.value ∙ (c.format.ensures.text ∙ ap (λ n. decimal (n / 1000000)) abs) in
    let sign_short : length c.sign.result.now ≤ 1 = omega (arith, ap length sign, minus_short c.args.nm) in
    let short : length c.as_bytes.result.now ≤ 7 = omega (arith, ap length whole, whole_short (unsigned_abs c.args.nm) c.requires) in
    let six : c.last_six.result ≡ six_digits (unsigned_abs c.args.nm % 1000000) = c.last_six.ensures ∙ ap (λ n. six_digits (n % 1000000)) abs in
    let text : mm_text c.args.nm ≡ c.sign.result.now ++ (c.as_bytes.result.now ++ (46 ∷ c.last_six.result)) = sym (ap (λ x. x ++ (c.as_bytes.result.now ++ (46 ∷ c.last_six.result))) sign ∙ (ap (λ x. minus_sign c.args.nm ++ (x ++ (46 ∷ c.last_six.result))) whole ∙ ap (λ x. minus_sign c.args.nm ++ (decimal (unsigned_abs c.args.nm / 1000000) ++ (46 ∷ x))) six)) in
    c.put.ensures.prefix ∙ (ap (λ x. x ++ c.last_six.result) (c.put-at-3.ensures.prefix ∙ ap (λ x. x ++ (46 ∷ [])) (c.put-at-2.ensures.prefix ∙ ap (λ x. x ++ c.as_bytes.result.now) c.put-at.ensures.prefix)) ∙ (joined_text c.sign.result.now c.as_bytes.result.now c.last_six.result ∙ sym text))

pub returns-clause-len : goal.returns-clause-len
unfolding mm_text
returns-clause-len c =
    let same = to_z-of_z w64 c.args.nm c.ranges.nm in
    let sign : c.sign.result.now ≡ minus_sign c.args.nm = c.sign.ensures ∙ ap minus_sign same in
    let abs : c.unsigned_abs-nanometres.result ≡ unsigned_abs c.args.nm = c.unsigned_abs-nanometres.ensures.value ∙ ap unsigned_abs same in
    let whole : c.as_bytes.result.now ≡ decimal (unsigned_abs c.args.nm / 1000000) = c.as_bytes.ensures.value ∙ (c.format.ensures.text ∙ ap (λ n. decimal (n / 1000000)) abs) in
    let sign_short : length c.sign.result.now ≤ 1 = omega (arith, ap length sign, minus_short c.args.nm) in
    let short : length c.as_bytes.result.now ≤ 7 = omega (arith, ap length whole, whole_short (unsigned_abs c.args.nm) c.requires) in
    let six : c.last_six.result ≡ six_digits (unsigned_abs c.args.nm % 1000000) = c.last_six.ensures ∙ ap (λ n. six_digits (n % 1000000)) abs in
    let text : mm_text c.args.nm ≡ c.sign.result.now ++ (c.as_bytes.result.now ++ (46 ∷ c.last_six.result)) = sym (ap (λ x. x ++ (c.as_bytes.result.now ++ (46 ∷ c.last_six.result))) sign ∙ (ap (λ x. minus_sign c.args.nm ++ (x ++ (46 ∷ c.last_six.result))) whole ∙ ap (λ x. minus_sign c.args.nm ++ (decimal (unsigned_abs c.args.nm / 1000000) ++ (46 ∷ x))) six)) in
    omega (arith, ap length text, length_text c.sign.result.now c.as_bytes.result.now c.last_six.result)

pub returns-clause-fits : goal.returns-clause-fits
returns-clause-fits c =
    let same = to_z-of_z w64 c.args.nm c.ranges.nm in
    let sign : c.sign.result.now ≡ minus_sign c.args.nm = c.sign.ensures ∙ ap minus_sign same in
    let abs : c.unsigned_abs-nanometres.result ≡ unsigned_abs c.args.nm = c.unsigned_abs-nanometres.ensures.value ∙ ap unsigned_abs same in
    let whole : c.as_bytes.result.now ≡ decimal (unsigned_abs c.args.nm / 1000000) = c.as_bytes.ensures.value ∙ (c.format.ensures.text ∙ ap (λ n. decimal (n / 1000000)) abs) in
    let sign_short : length c.sign.result.now ≤ 1 = omega (arith, ap length sign, minus_short c.args.nm) in
    let short : length c.as_bytes.result.now ≤ 7 = omega (arith, ap length whole, whole_short (unsigned_abs c.args.nm) c.requires) in
    omega (arith, ap length c.last_six.ensures)
