-- The answers as functions of the text, case by case as the calls reach them.
use Rattle.std.proofs.Common.{◌≡◌, ℕ, ◌+◌, ◌*◌, ◌<◌, ◌≤◌, ◌/◌, ◌%◌, ◌==◌, ◌&&◌, Bool, true, false, ◌||◌, List, length, ℤ, pos, Result, Ok, Err, Some, cond, nat_lt, sym, ap, ◌∙◌, subst, refl, arith}
use Rattle.std.proofs.Math.Nat.{mul-le-mul_left, div-add-mod'}
use Rattle.std.proofs.lemmas.Bool.{lt-ltb}
use Rattle.std.proofs.lemmas.Nat.{le-div, mod_below}
use Rattle.exact_dec.specs.declared.DecError.{DecError}
use Rattle.exact_dec.specs.declared.DecError.TheVariants.{TooWide}
use Rattle.exact_dec.specs.Decimal.{Spelling, Fraction, signed, value, times, cut, lowered}
use Rattle.exact_dec.specs.Computed.{near, answer_of}
use Rattle.exact_dec.specs.DecimalAnswers.{is_long, is_far, no_more}
use Rattle.exact_dec.specs.Spelled.{IsQuotient, top, bottom, half}
use Rattle.exact_dec.proofs.Digits.{pow10_pos}
use Rattle.exact_dec.proofs.Rounding.{times_signed, abs_signed, cut_signed, quotient_div, near_once, near_is, half_near}

-- the answer for a number that was rounded
abbrev pub bounded : Bool → ℕ → Result ℤ DecError
bounded negative n = cond (nat_lt 1000000000000 n) (Err TooWide) (Ok (signed negative n))

abbrev pub chosen : Bool → ℤ → Result ℤ DecError
chosen over n = cond over (Err TooWide) (Ok n)

or_false : (b : Bool) → (b || false) ≡ b
or_false true = refl
or_false false = refl

or_true : (b : Bool) → (b || true) ≡ true
or_true true = refl
or_true false = refl

pub bottom_some : (p : Spelling) → 0 < bottom p
bottom_some p = pow10_pos (length p.fraction + lowered p.lowers p.exponent)

pub times_value : (k : ℕ) (p : Spelling) → times (pos k) (value p) ≡ record { numerator = signed p.negative (k * top p); denominator = bottom p }
times_value k p = let F : ℤ → Fraction = λ n. record { numerator = n; denominator = bottom p } in ap F (times_signed k (top p) p.negative)

pub long_answer : (text : List ℕ) (unit : ℤ) (rounded : Fraction → ℤ) (beyond : Fraction → Bool) (p : Spelling) → is_long text p ≡ true → Err TooWide ≡ answer_of text unit rounded beyond (Some p)
long_answer text unit rounded beyond p h =
    let n = rounded (times unit (value p)) in
    sym (ap (λ b. chosen (b || (is_far n || beyond (value p))) n) h)

-- the answer by the rounded number without its sign
pub bounded_answer : (text : List ℕ) (unit n : ℕ) (rounded : Fraction → ℤ) (p : Spelling) → is_long text p ≡ false → rounded (times (pos unit) (value p)) ≡ signed p.negative n → bounded p.negative n ≡ answer_of text (pos unit) rounded no_more (Some p)
bounded_answer text unit n rounded p short is =
    let r = rounded (times (pos unit) (value p)) in
    sym (ap (λ b. chosen (b || (is_far r || false)) r) short
    ∙ (ap (λ b. chosen b r) (or_false (is_far r))
    ∙ (ap (λ z. chosen (is_far z) z) is
    ∙ ap (λ m. chosen (nat_lt 1000000000000 m) (signed p.negative n)) (abs_signed p.negative n))))

-- a rounded number that is far is refused at any length of the text
pub far_answer : (text : List ℕ) (unit n : ℕ) (rounded : Fraction → ℤ) (beyond : Fraction → Bool) (p : Spelling) → rounded (times (pos unit) (value p)) ≡ signed p.negative n → 1000000000000 < n → Err TooWide ≡ answer_of text (pos unit) rounded beyond (Some p)
far_answer text unit n rounded beyond p is far =
    let r = rounded (times (pos unit) (value p)) in
    let test : is_far r ≡ true = ap (λ z. is_far z) is ∙ (ap (λ m. nat_lt 1000000000000 m) (abs_signed p.negative n) ∙ lt-ltb 1000000000000 n far) in
    sym (ap (λ b. chosen (is_long text p || (b || beyond (value p))) r) test ∙ ap (λ b. chosen b r) (or_true (is_long text p)))

pub cut_is : (unit q : ℕ) (e : Bool) (p : Spelling) → IsQuotient (unit * top p) (bottom p) q e → cut (times (pos unit) (value p)) ≡ signed p.negative q
cut_is unit q e p h = ap cut (times_value unit p) ∙ (cut_signed (unit * top p) (bottom p) p.negative ∙ ap (signed p.negative) (quotient_div _ _ q e h))

pub near_half : (unit q : ℕ) (e : Bool) (p : Spelling) → IsQuotient (2 * unit * top p) (bottom p) q e → near (times (pos unit) (value p)) ≡ signed p.negative (half p.negative q e)
near_half unit q e p h =
    let same : 2 * unit * top p ≡ 2 * (unit * top p) = omega arith in
    let f : Fraction = record { numerator = signed p.negative (unit * top p); denominator = bottom p } in
    ap near (times_value unit p) ∙ near_once f (near f) (signed p.negative (half p.negative q e)) (near_is f (bottom_some p)) (half_near (unit * top p) (bottom p) q e p.negative (subst (λ x. IsQuotient x (bottom p) q e) same h))

-- ---- digits before the point that come to more than the most

above_most : (unit : ℕ) (p : Spelling) → 100000000 * bottom p < top p → 25400 ≤ unit → 1000000000000 < unit * top p / bottom p
above_most unit p above reach =
    let most : 100000000 * unit * bottom p ≤ unit * top p = omega (arith, mul-le-mul_left unit above) in
    omega (arith, le-div (100000000 * unit) (unit * top p) (bottom p) (bottom_some p) most)

pub cut_above : (text : List ℕ) (unit : ℕ) (p : Spelling) → 100000000 * bottom p < top p → 25400 ≤ unit → Err TooWide ≡ answer_of text (pos unit) cut no_more (Some p)
cut_above text unit p above reach =
    far_answer text unit (unit * top p / bottom p) cut no_more p
    (ap cut (times_value unit p) ∙ cut_signed (unit * top p) (bottom p) p.negative) (above_most unit p above reach)

quotient_of : (n d : ℕ) → 0 < d → IsQuotient n d (n / d) ((n % d) == 0)
quotient_of n d some = record { left = n % d; divided = sym (div-add-mod' n d); small = mod_below n d some; is_exact = refl }

half_least : (negative : Bool) (q : ℕ) (e : Bool) → q ≤ 2 * half negative q e + 1
half_least negative q e = elim (negative && e) as (λ b. q ≤ 2 * cond b (q / 2) ((q + 1) / 2) + 1) [ true ↦ omega (arith, div-add-mod' q 2, mod_below q 2 (omega arith)) | false ↦ omega (arith, div-add-mod' (q + 1) 2, mod_below (q + 1) 2 (omega arith)) ]

pub near_above : (text : List ℕ) (unit : ℕ) (p : Spelling) → 100000000 * bottom p < top p → 25400 ≤ unit → Err TooWide ≡ answer_of text (pos unit) near no_more (Some p)
near_above text unit p above reach =
    let q = 2 * unit * top p / bottom p in
    let e = (2 * unit * top p % bottom p) == 0 in
    let whole : 200000000 * unit * bottom p ≤ 2 * unit * top p = omega (arith, mul-le-mul_left unit above) in
    let great : 200000000 * unit ≤ q = le-div (200000000 * unit) (2 * unit * top p) (bottom p) (bottom_some p) whole in
    far_answer text unit (half p.negative q e) near no_more p
    (near_half unit q e p (quotient_of (2 * unit * top p) (bottom p) (bottom_some p)))
    (omega (arith, half_least p.negative q e, great, reach))
