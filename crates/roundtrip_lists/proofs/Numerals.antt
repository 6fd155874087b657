-- Numbers as they are written are contents of atoms.
use Rattle.std.proofs.Common.{◌≡◌, refl, ap, ℕ, ◌+◌, ◌/◌, ◌%◌, ◌^◌, ◌<◌, ◌≤◌, ℤ, pos, negsuc, unsigned_abs, Bool, true, false, ◌==◌, List, [], ◌∷◌, ◌++◌, length, IsUtf8, arith}
use Rattle.std.specs.Prelude.{decimal}
use Rattle.std.specs.Char.{is_ascii_digit}
use Rattle.std.specs.Str.{all_ascii_digits}
use Rattle.std.proofs.lemmas.Bool.{and_parts, leb-true}
use Rattle.std.proofs.lemmas.Bool.Decides.{nat_tests}
use Rattle.std.proofs.lemmas.Fmt.{digits_decimal}
use Rattle.std.proofs.lemmas.Nat.{mod_below}
use Rattle.std.proofs.lemmas.Str.Parse.{IsNumeralModel, numerals_by_weight, tells_all_ascii_digits}
use Rattle.std.proofs.lemmas.Str.{IsUtf8-append, IsUtf8-nil}
use Rattle.exact_dec.specs.Decimal.{number}
use Rattle.exact_dec.specs.MillimetreText.{minus_sign, six_digits, mm_text}
use Rattle.sexpr_read.specs.declared.bytes.ByteClass.TheVariants.{Plain}
use Rattle.sexpr_read.specs.ByteClasses.{class_of, is_word, is_itself}
use Rattle.roundtrip_text.specs.Pieces.{AreOfWord, IsQuotedContent, IsContentOf}
use Rattle.roundtrip_text.specs.Pieces.IsQuotedContent.{empty, itself}
use Rattle.roundtrip_text.proofs.Utf8.{low_utf8}

-- plain bytes of ASCII
abbrev AreLow : List ℕ → Type 0
AreLow [] = Unit {0}
AreLow (b ∷ bytes) = (class_of b ≡ Plain) × (b < 128) × AreLow bytes

plain_by : (b : ℕ) → 45 ≤ b → b ≤ 57 → class_of b ≡ Plain
unfolding class_of
plain_by b low high =
    let s : (b == 0x20) ≡ false = grind (arith, nat_tests, low) in
    let t : (b == 0x09) ≡ false = grind (arith, nat_tests, low) in
    let f : (b == 0x0A) ≡ false = grind (arith, nat_tests, low) in
    let r : (b == 0x0D) ≡ false = grind (arith, nat_tests, low) in
    let o : (b == 0x28) ≡ false = grind (arith, nat_tests, low) in
    let c : (b == 0x29) ≡ false = grind (arith, nat_tests, low) in
    let q : (b == 0x22) ≡ false = grind (arith, nat_tests, low) in
    let k : (b == 0x5C) ≡ false = grind (arith, nat_tests, high) in
    rw (s, t, f, r, o, c, q, k) refl

low_both : (a b : List ℕ) → AreLow a → AreLow b → AreLow (a ++ b)
low_both [] b h k = k
low_both (x ∷ a) b h k = (h.0, h.1, low_both a b h.2 k)

one_low : (b : ℕ) → 45 ≤ b → b ≤ 57 → (bytes : List ℕ) → AreLow bytes → AreLow (b ∷ bytes)
one_low b low high bytes h = (plain_by b low high, omega arith, h)

digits_low : (ds : List ℕ) → all_ascii_digits ds ≡ true → AreLow ds
digits_low [] h = tt
digits_low (b ∷ ds) h =
    let both = and_parts (is_ascii_digit b) (all_ascii_digits ds) h in
    let within = and_parts _ _ both.0 in
    one_low b (let k = leb-true 48 b within.0 in omega (arith, k)) (leb-true b 57 within.1) ds (digits_low ds both.1)

numerals : IsNumeralModel (λ ds. all_ascii_digits ds ≡ true) number
numerals = numerals_by_weight (λ ds. all_ascii_digits ds ≡ true) tells_all_ascii_digits number (record { empty = refl; more = λ c cs h. refl })

digit_is : (n : ℕ) → (class_of (48 + n % 10) ≡ Plain) × (48 + n % 10 < 128)
digit_is n = let m = mod_below n 10 (omega arith) in (plain_by (48 + n % 10) (omega arith) (omega (arith, m)), omega (arith, m))

six_low : (n : ℕ) → AreLow (six_digits n)
six_low n =
    let a = digit_is (n / 10 ^ 5) in
    let b = digit_is (n / 10 ^ 4) in
    let c = digit_is (n / 10 ^ 3) in
    let d = digit_is (n / 10 ^ 2) in
    let e = digit_is (n / 10 ^ 1) in
    let f = digit_is (n / 10 ^ 0) in
    (a.0, a.1, (b.0, b.1, (c.0, c.1, (d.0, d.1, (e.0, e.1, (f.0, f.1, tt))))))

sign_low : (z : ℤ) → AreLow (minus_sign z)
sign_low (pos n) = tt
sign_low (negsuc n) = one_low 45 (omega arith) (omega arith) [] tt

text_low : (z : ℤ) → unsigned_abs z ≤ 1000000000000 → AreLow (mm_text z)
unfolding mm_text
text_low z h =
    let n = unsigned_abs z / 1000000 in
    let small : n < 2 ^ 64 = omega arith in
    low_both (minus_sign z) (decimal n ++ (46 ∷ six_digits (unsigned_abs z % 1000000))) (sign_low z)
    (low_both (decimal n) (46 ∷ six_digits (unsigned_abs z % 1000000)) (digits_low (decimal n) (digits_decimal numerals n small)) (one_low 46 (omega arith) (omega arith) (six_digits (unsigned_abs z % 1000000)) (six_low (unsigned_abs z % 1000000))))

low_word : (bytes : List ℕ) → AreLow bytes → AreOfWord bytes
low_word [] h = tt
low_word (b ∷ bytes) h = (ap is_word h.0, low_word bytes h.2)

low_inside : (bytes : List ℕ) → AreLow bytes → IsQuotedContent bytes
low_inside [] h = empty
low_inside (b ∷ bytes) h = itself (ap is_itself h.0) (low_inside bytes h.2)

low_text : (bytes : List ℕ) → AreLow bytes → IsUtf8 bytes
low_text [] h = IsUtf8-nil
low_text (b ∷ bytes) h = IsUtf8-append (b ∷ []) bytes (low_utf8 b h.1) (low_text bytes h.2)

word_content : (bytes : List ℕ) → 0 < length bytes → AreOfWord bytes → IsContentOf false bytes
word_content [] some h = absurd (omega arith)
word_content (b ∷ bytes) some h = h

text_long : (z : ℤ) → 0 < length (mm_text z)
unfolding mm_text
text_long z = some (minus_sign z) (decimal (unsigned_abs z / 1000000)) (six_digits (unsigned_abs z % 1000000))
  where
    some : (a b c : List ℕ) → 0 < length (a ++ (b ++ (46 ∷ c)))
    some [] [] c = omega arith
    some [] (x ∷ b) c = omega arith
    some (x ∷ a) b c = omega arith

pub number_content : (q : Bool) (z : ℤ) → unsigned_abs z ≤ 1000000000000 → IsContentOf q (mm_text z)
number_content false z h = word_content (mm_text z) (text_long z) (low_word (mm_text z) (text_low z h))
number_content true z h = low_inside (mm_text z) (text_low z h)

pub number_utf8 : (z : ℤ) → unsigned_abs z ≤ 1000000000000 → IsUtf8 (mm_text z)
number_utf8 z h = low_text (mm_text z) (text_low z h)
