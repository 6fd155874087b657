-- The same answers as functions of the text, for definitions that compute with what was read. Each reading call ensures
-- that they and the relations of `DecimalAnswers` are one.
use Rattle.std.specs.Prelude.{ℕ, ◌-◌, ◌*◌, ◌/◌, Bool, false, ◌&&◌, ◌||◌, List, [], ◌∷◌, ◌++◌, length, take, drop, codes, ℤ, pos, negsuc, ◌+ℤ◌, ◌*ℤ◌, nat_lt, nat_le, ◌==◌, if◌then◌else◌, Option, Some, None, Result, Ok, Err, bytes_eq}
use Rattle.std.specs.Char.{is_ascii_digit}
use Rattle.std.specs.Str.{all_ascii_digits}
use Rattle.exact_dec.specs.declared.DecError.{DecError}
use Rattle.exact_dec.specs.declared.DecError.TheVariants.{BadNumber, TooWide}
use Rattle.exact_dec.specs.Decimal.{Spelling, Fraction, number, value, times, cut}
use Rattle.exact_dec.specs.DecimalAnswers.{is_long, is_far, is_no_half, no_more}

-- ---- the parts of a text

abbrev pub has_minus : List ℕ → Bool
has_minus [] = false
has_minus (c ∷ cs) = c == 45

abbrev pub after_sign : List ℕ → List ℕ
after_sign [] = []
after_sign (c ∷ cs) = if ((c == 43) || (c == 45)) then cs else (c ∷ cs)

-- the digits at the front, and what follows them
abbrev pub prefix_digits : List ℕ → List ℕ
prefix_digits [] = []
prefix_digits (c ∷ cs) = if is_ascii_digit c then (c ∷ prefix_digits cs) else []

abbrev pub after_digits : List ℕ → List ℕ
after_digits [] = []
after_digits (c ∷ cs) = if is_ascii_digit c then after_digits cs else (c ∷ cs)

-- the digits after a point at the front, and what follows them
abbrev pub point_digits : List ℕ → List ℕ
point_digits [] = []
point_digits (c ∷ cs) = if c == 46 then prefix_digits cs else []

abbrev pub after_point : List ℕ → List ℕ
after_point [] = []
after_point (c ∷ cs) = if c == 46 then after_digits cs else (c ∷ cs)

abbrev pub is_digits : List ℕ → Bool
is_digits ds = all_ascii_digits ds && nat_lt 0 (length ds)

-- a whole text that is an exponent or nothing: its sign is a minus, and its digits
abbrev pub power_of : List ℕ → Option (Bool × List ℕ)
power_of [] = Some (false, [])
power_of (c ∷ cs) = if (((c == 101) || (c == 69)) && is_digits (after_sign cs)) then Some (has_minus cs, after_sign cs) else None

abbrev pub with_power : Bool → List ℕ → List ℕ → Option (Bool × List ℕ) → Option Spelling
with_power negative whole fraction None = None
with_power negative whole fraction (Some power) =
    if nat_lt 0 (length (whole ++ fraction)) then Some (record { negative = negative; whole = whole; fraction = fraction; lowers = power.0; exponent = power.1 }) else None

unfoldable pub parts_of : List ℕ → Option Spelling
parts_of text =
    let body = after_sign text in
    let rest = after_digits body in
    with_power (has_minus text) (prefix_digits body) (point_digits rest) (power_of (after_point rest))

-- ---- rounding

-- the greatest whole number not above n / d
abbrev pub floor : ℤ → ℕ → ℤ
floor (pos n) d = pos (n / d)
floor (negsuc n) d = negsuc (n / d)

-- the greatest whole number not above the fraction and one half
abbrev pub near : Fraction → ℤ
near f = floor ((pos 2 *ℤ f.numerator) +ℤ pos f.denominator) (2 * f.denominator)

-- ---- the answers

abbrev pub answer_of : List ℕ → ℤ → (Fraction → ℤ) → (Fraction → Bool) → Option Spelling → Result ℤ DecError
answer_of text unit rounded beyond None = Err BadNumber
answer_of text unit rounded beyond (Some p) =
    let n = rounded (times unit (value p)) in
    if (is_long text p || (is_far n || beyond (value p))) then Err TooWide else Ok n

unfoldable pub mm_cut_answer : List ℕ → Result ℤ DecError
mm_cut_answer text = answer_of text (pos 1000000) cut no_more (parts_of text)

unfoldable pub mm_near_answer : List ℕ → Result ℤ DecError
mm_near_answer text = answer_of text (pos 1000000) near no_more (parts_of text)

unfoldable pub ratio_near_answer : List ℕ → ℤ → Result ℤ DecError
ratio_near_answer text whole = answer_of text whole near is_no_half (parts_of text)

-- how many nanometres the unit at the end of a text counts, 0 where there is none; and the text before it
abbrev pub ends_in : List ℕ → List ℕ → Bool
ends_in text unit = bytes_eq (drop (length text - length unit) text) unit

abbrev pub unit_of : List ℕ → ℕ
unit_of text = if ends_in text (codes "mm") then 1000000 else (if ends_in text (codes "mil") then 25400 else (if ends_in text (codes "in") then 25400000 else 0))

abbrev pub before_unit : List ℕ → List ℕ
before_unit text = if ends_in text (codes "mm") then take (length text - 2) text else (if ends_in text (codes "mil") then take (length text - 3) text else (if ends_in text (codes "in") then take (length text - 2) text else text))

-- the parts, where a text without a unit has value 0
abbrev pub zero_or_unit : ℕ → Option Spelling → Option Spelling
zero_or_unit unit None = None
zero_or_unit unit (Some p) = if (unit == 0) && nat_lt 0 (number (p.whole ++ p.fraction)) then None else Some p

unfoldable pub with_unit_answer : List ℕ → Result ℤ DecError
with_unit_answer text = answer_of text (pos (unit_of text)) near no_more (zero_or_unit (unit_of text) (parts_of (before_unit text)))

unfoldable pub count_answer : List ℕ → Result ℕ DecError
count_answer text = if (is_digits text && nat_le (length text) 10) then (if nat_lt 4294967295 (number text) then Err TooWide else Ok (number text)) else Err BadNumber
