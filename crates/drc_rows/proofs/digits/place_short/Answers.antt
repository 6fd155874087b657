use Rattle.std.proofs.Common.{◌≡◌, ℕ, ◌/◌, ◌%◌, List, ◌∷◌, ◌++◌, unsigned_abs, w64, ap, ◌∙◌, append_assoc}
use Rattle.std.specs.Prelude.{decimal}
use Rattle.std.proofs.lemmas.Int.{to_z-of_z}
use Rattle.exact_dec.specs.MillimetreText.{minus_sign, six_digits, mm_text}
use Rattle.drc_rows.proofs.digits.place_short.Goals as goal

regroup : (prefix s d x : List ℕ) → ((prefix ++ s) ++ d) ++ x ≡ prefix ++ (s ++ (d ++ x))
regroup prefix s d x = simp append_assoc

-- a sign, a whole number and a fraction, one behind another
joined : (all signed whole prefix s t : List ℕ) (n m : ℕ) → all ≡ whole ++ (46 ∷ six_digits (n % 1000000)) → whole ≡ signed ++ decimal (n / 1000000) → signed ≡ prefix ++ s
    → s ≡ t → n ≡ m → all ≡ prefix ++ (t ++ (decimal (m / 1000000) ++ (46 ∷ six_digits (m % 1000000))))
joined all signed whole prefix s t n m e3 e2 e1 same_sign same =
    e3 ∙ (ap (λ l. l ++ (46 ∷ six_digits (n % 1000000))) (e2 ∙ ap (λ l. l ++ decimal (n / 1000000)) (e1 ∙ ap (λ l. prefix ++ l) same_sign))
    ∙ (regroup prefix t (decimal (n / 1000000)) (46 ∷ six_digits (n % 1000000))
    ∙ ap (λ k. prefix ++ (t ++ (decimal (k / 1000000) ++ (46 ∷ six_digits (k % 1000000))))) same))

pub returns-clause-prefix : goal.returns-clause-prefix
unfolding mm_text
returns-clause-prefix c =
    let same = to_z-of_z w64 c.args.nm c.ranges.nm in
    joined _ _ _ _ _ _ _ _ c.place_fraction.ensures.prefix c.place_whole-at.ensures.prefix c.place_sign-at.ensures.prefix (ap minus_sign same)
    (c.unsigned_abs-nanometres.ensures.value ∙ ap unsigned_abs same)
