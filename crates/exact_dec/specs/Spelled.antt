-- What the code's slices show, and what its division steps keep.
use Rattle.std.specs.Prelude.{◌≡◌, ℕ, ◌+◌, ◌*◌, ◌/◌, ◌^◌, ◌<◌, Bool, true, false, ◌&&◌, List, ◌++◌, length, Some, ◌==◌, if◌then◌else◌}
use Rattle.std.specs.Str.{all_ascii_digits}
use Rattle.exact_dec.specs.declared.parts.DecimalParts.{DecimalParts}
use Rattle.exact_dec.specs.Computed.{parts_of}
use Rattle.exact_dec.specs.DecimalAnswers.{is_long}
use Rattle.exact_dec.specs.Decimal.{Spelling, number, raised, lowered}

abbrev pub spelled : DecimalParts → Spelling
spelled p = record { negative = p.negative; whole = p.whole.now; fraction = p.fraction.now; lowers = p.lowers; exponent = p.exponent.now }

-- each part is digits
pub record HasDigits (p : Spelling) : Type 0 where
  pub whole : all_ascii_digits p.whole ≡ true
  pub fraction : all_ascii_digits p.fraction ≡ true
  pub exponent : all_ascii_digits p.exponent ≡ true

-- the number of all digits, as if there were no point
abbrev pub digits_of : Spelling → ℕ
digits_of p = number (p.whole ++ p.fraction)

-- the value without its sign, as a fraction
abbrev pub top : Spelling → ℕ
top p = digits_of p * 10 ^ raised p.lowers p.exponent

abbrev pub bottom : Spelling → ℕ
bottom p = 10 ^ (length p.fraction + lowered p.lowers p.exponent)

-- n divided by d: the whole part, and whether nothing is left
pub record IsQuotient (n d whole : ℕ) (exact : Bool) : Type 0 where
  pub left : ℕ
  pub divided : n ≡ whole * d + left
  pub small : left < d
  pub is_exact : exact ≡ (left == 0)

-- the nearest whole number, without its sign, by the number of halves: a half goes up, which is toward zero below zero
abbrev pub half : Bool → ℕ → Bool → ℕ
half negative halves exact = if (negative && exact) then (halves / 2) else ((halves + 1) / 2)

-- a text of at most 64 bytes spells a decimal that comes to so many whole nanometres, as millimetres and without its sign
pub record IsShortDecimal (text : List ℕ) (negative : Bool) (nanometres : ℕ) : Type 0 where
  pub parts : Spelling
  pub spelt : parts_of text ≡ Some parts
  pub sign : parts.negative ≡ negative
  pub limits : is_long text parts ≡ false
  pub whole : 1000000 * top parts ≡ nanometres * bottom parts
