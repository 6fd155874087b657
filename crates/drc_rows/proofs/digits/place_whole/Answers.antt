use Rattle.std.proofs.Common.{◌≡◌, ℕ, ◌<◌, ◌≤◌, ◌+◌, ◌/◌, ◌%◌, [], ◌∷◌, ◌++◌, get_or, take, sym, ap, ◌∙◌, arith}
use Rattle.std.specs.Prelude.{decimal}
use Rattle.std.proofs.lemmas.Fmt.{decimal_digit, decimal_step}
use Rattle.drc_rows.proofs.digits.place_whole.Goals as goal

two : (n : ℕ) → 10 ≤ n → n < 100 → (48 + n / 10) ∷ (48 + n % 10) ∷ [] ≡ decimal n
two n low high = sym (decimal_step n low (omega arith) ∙ ap (λ l. l ++ ((48 + n % 10) ∷ [])) (decimal_digit (n / 10) (omega arith)))

three : (n : ℕ) → 100 ≤ n → n < 1000 → (48 + n / 100) ∷ (48 + n % 100 / 10) ∷ (48 + n % 100 % 10) ∷ [] ≡ decimal n
three n low high =
    let tens : n % 100 / 10 ≡ n / 10 % 10 = omega arith in
    let ones : n % 100 % 10 ≡ n % 10 = omega arith in
    let hundreds : n / 10 / 10 ≡ n / 100 = omega arith in
    let prefix : decimal (n / 10) ≡ (48 + n / 100) ∷ (48 + n / 10 % 10) ∷ [] = rw (← hundreds) (sym (two (n / 10) (omega arith) (omega arith))) in
    rw (tens, ones) (sym (decimal_step n (omega arith) (omega arith) ∙ ap (λ l. l ++ ((48 + n % 10) ∷ [])) prefix))

pub returns-then-n-lt10-clause-prefix : goal.returns-then-n-lt10-clause-prefix
returns-then-n-lt10-clause-prefix c = c.place.ensures.prefix ∙ ap (λ l. take c.args.at c.args.bytes.now ++ l) (sym (decimal_digit c.args.n (omega arith)))

pub returns-then-n-lt100-clause-prefix : goal.returns-then-n-lt100-clause-prefix
returns-then-n-lt100-clause-prefix c =
    c.place-then-n-lt100.ensures.prefix ∙ ap (λ l. take c.args.at c.args.bytes.now ++ l) (c.pair.ensures ∙ two c.args.n (omega arith) (omega arith))

pub returns-clause-prefix : goal.returns-clause-prefix
returns-clause-prefix c =
    let prefix = take c.args.at c.args.bytes.now in
    let n = c.args.n in
    c.place-2.ensures.prefix ∙ (ap (λ p. prefix ++ ((48 + n / 100) ∷ get_or p 0 0 ∷ get_or p 1 0 ∷ [])) c.pair-2.ensures ∙ ap (λ l. prefix ++ l) (three n (omega arith) (omega arith)))
