-- The pieces of a written number.
use Rattle.std.proofs.Common.{◌≡◌, ℕ, ◌+◌, ◌/◌, ◌≤◌, List, [], ◌∷◌, ◌++◌, length, ℤ, pos, negsuc, ◌∙◌, arith, append_assoc, length-append}
use Rattle.std.specs.Prelude.{decimal}
use Rattle.std.proofs.lemmas.Fmt.{length-decimal-le}
use Rattle.exact_dec.specs.MillimetreText.{minus_sign}

pub minus_short : (z : ℤ) → length (minus_sign z) ≤ 1
minus_short (pos n) = omega arith
minus_short (negsuc n) = omega arith

pub whole_short : (n : ℕ) → n ≤ 1000000000000 → length (decimal (n / 1000000)) ≤ 7
whole_short n h = length-decimal-le 7 (n / 1000000) (omega arith) (omega arith) (omega arith)

pub joined_text : (s d x : List ℕ) → ((s ++ d) ++ (46 ∷ [])) ++ x ≡ s ++ (d ++ (46 ∷ x))
joined_text s d x = append_assoc (s ++ d) (46 ∷ []) x ∙ append_assoc s d (46 ∷ x)

pub length_text : (s d x : List ℕ) → length (s ++ (d ++ (46 ∷ x))) ≡ length s + (length d + (1 + length x))
length_text s d x = omega (arith, length-append s (d ++ (46 ∷ x)), length-append d (46 ∷ x))
