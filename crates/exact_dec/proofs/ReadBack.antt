-- What is written is read back.
use Rattle.std.proofs.Common.{◌≡◌, ℕ, ◌+◌, ◌*◌, ◌/◌, ◌%◌, ◌^◌, ◌<◌, ◌≤◌, Bool, true, false, [], ◌∷◌, ◌++◌, length, ℤ, pos, negsuc, unsigned_abs, Ok, Err, cond, nat_lt, sym, ap, ◌∙◌, refl, arith, append-nil}
use Rattle.std.specs.Prelude.{decimal}
use Rattle.std.proofs.Math.Nat.{div-div-eq-div-mul, div-add-mod'}
use Rattle.std.proofs.lemmas.Bool.{le-ltb, le-leb}
use Rattle.std.specs.Cmp.Derive.{both_true}
use Rattle.std.proofs.lemmas.Fmt.{digits_decimal, digits_value-decimal, decimal_nonempty}
use Rattle.std.proofs.lemmas.Nat.{mod_below}
use Rattle.std.proofs.lemmas.Str.Parse.{IsNumeralModel, numerals_by_weight, tells_all_ascii_digits}
use Rattle.std.specs.Char.{is_ascii_digit}
use Rattle.std.specs.Str.{all_ascii_digits}
use Rattle.exact_dec.specs.declared.DecError.{DecError}
use Rattle.exact_dec.specs.Decimal.{Spelling, Spells, IsSign, unsigned, minus, point_inside, no_power, number, signed, cut}
use Rattle.exact_dec.specs.Computed.{answer_of, mm_cut_answer}
use Rattle.exact_dec.specs.DecimalAnswers.{is_long, no_more}
use Rattle.exact_dec.specs.Spelled.{IsQuotient, top, bottom}
use Rattle.exact_dec.specs.MillimetreText.{minus_sign, six_digits, mm_text}
use Rattle.exact_dec.proofs.Answering.{cut_is, bounded_answer}
use Rattle.exact_dec.proofs.Digits.{number-append}
use Rattle.exact_dec.proofs.Grammar.{spelled_once}
use Rattle.exact_dec.proofs.Texts.{minus_short, whole_short, length_text}

numerals : IsNumeralModel (λ ds. all_ascii_digits ds ≡ true) number
numerals = numerals_by_weight (λ ds. all_ascii_digits ds ≡ true) tells_all_ascii_digits number (record { empty = refl; more = λ c cs h. refl })

digit_is : (n : ℕ) → is_ascii_digit (48 + n % 10) ≡ true
digit_is n = both_true (le-leb 48 (48 + n % 10) (omega arith)) (le-leb (48 + n % 10) 57 (omega (arith, mod_below n 10 (omega arith))))

six_are_digits : (n : ℕ) → all_ascii_digits (six_digits n) ≡ true
six_are_digits n = rw (digit_is (n / 10 ^ 5), digit_is (n / 10 ^ 4), digit_is (n / 10 ^ 3), digit_is (n / 10 ^ 2), digit_is (n / 10 ^ 1), digit_is (n / 10 ^ 0))

six_number : (n : ℕ) → n < 1000000 → number (six_digits n) ≡ n
six_number n small =
    omega (arith, div-div-eq-div-mul n 1 10, div-div-eq-div-mul n 10 10, div-div-eq-div-mul n 100 10, div-div-eq-div-mul n 1000 10, div-div-eq-div-mul n 10000 10)

abbrev pub is_below : ℤ → Bool
is_below (pos n) = false
is_below (negsuc n) = true

sign_is : (z : ℤ) → IsSign (minus_sign z) (is_below z)
sign_is (pos n) = unsigned
sign_is (negsuc n) = minus

signed_is : (z : ℤ) → signed (is_below z) (unsigned_abs z) ≡ z
signed_is (pos n) = refl
signed_is (negsuc n) = refl

abbrev pub parts_written : ℤ → Spelling
parts_written z = record { negative = is_below z; whole = decimal (unsigned_abs z / 1000000); fraction = six_digits (unsigned_abs z % 1000000); lowers = false; exponent = [] }

spells_written : (z : ℤ) → unsigned_abs z ≤ 1000000000000 → Spells (mm_text z) (parts_written z)
unfolding mm_text
spells_written z h =
    let n = unsigned_abs z / 1000000 in
    let w = decimal n in
    let x = six_digits (unsigned_abs z % 1000000) in
    let small : n < 2 ^ 64 = omega arith in
    record {
      sign = minus_sign z;
      mantissa = w ++ (46 ∷ x);
      power = [];
      joined = ap (λ y. minus_sign z ++ y) (sym (append-nil (w ++ (46 ∷ x))));
      is_sign = sign_is z;
      is_mantissa = point_inside refl (digits_decimal numerals n small, decimal_nonempty n small) (six_are_digits (unsigned_abs z % 1000000), omega arith);
      is_power = no_power refl refl refl;
    }

number_written : (z : ℤ) → unsigned_abs z ≤ 1000000000000 → number (decimal (unsigned_abs z / 1000000) ++ six_digits (unsigned_abs z % 1000000)) ≡ unsigned_abs z
number_written z h =
    let a = unsigned_abs z in
    let n = a / 1000000 in
    let m = a % 1000000 in
    let small : n < 2 ^ 64 = omega arith in
    let whole : number (decimal n) ≡ n = digits_value-decimal numerals n small in
    let six : number (six_digits m) ≡ m = six_number m (omega arith) in
    omega (arith, number-append (decimal n) (six_digits m), whole, six, div-add-mod' a 1000000)

short_written : (z : ℤ) → unsigned_abs z ≤ 1000000000000 → is_long (mm_text z) (parts_written z) ≡ false
unfolding mm_text
short_written z h =
    let w = decimal (unsigned_abs z / 1000000) in
    let x = six_digits (unsigned_abs z % 1000000) in
    let len : length (mm_text z) ≤ 64 = omega (arith, length_text (minus_sign z) w x, minus_short z, whole_short (unsigned_abs z) h) in
    rw (le-ltb 64 (length (mm_text z)) len)

pub read_back : (z : ℤ) → unsigned_abs z ≤ 1000000000000 → mm_cut_answer (mm_text z) ≡ Ok z
unfolding mm_cut_answer
read_back z h =
    let p = parts_written z in
    let n = unsigned_abs z in
    let quotient : IsQuotient (1000000 * top p) (bottom p) n true = record { left = 0; divided = omega (arith, number_written z h); small = omega arith; is_exact = refl } in
    let test : nat_lt 1000000000000 n ≡ false = le-ltb 1000000000000 n h in
    ap (answer_of (mm_text z) (pos 1000000) cut no_more) (spelled_once (mm_text z) p (spells_written z h))
    ∙ (sym (bounded_answer (mm_text z) 1000000 n cut p (short_written z h) (cut_is 1000000 n true p quotient))
    ∙ (ap (λ b. cond b (Err Rattle.exact_dec.specs.declared.DecError.TheVariants.TooWide) (Ok (signed (is_below z) n))) test
    ∙ ap Ok (signed_is z)))
