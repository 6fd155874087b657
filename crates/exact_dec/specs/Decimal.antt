-- Decimal numbers as board files, project files and rules write them (KiCad developer documentation,
-- "S-Expression Format"; the same numbers as in most languages, where digits may lack on one side of the point):
--   sign? (digits ("." digits?)? | "." digits) (("e" | "E") sign? digits)?
use Rattle.std.specs.Prelude.{◌≡◌, ℕ, ◌+◌, ◌-◌, ◌*◌, ◌^◌, ◌<◌, ◌⊎◌, Bool, true, false, List, [], ◌∷◌, ◌++◌, length, ℤ, pos, neg_ℤ, ◌+ℤ◌, ◌*ℤ◌, ◌≤ℤ◌, ◌<ℤ◌, int_div}
use Rattle.std.specs.Str.{all_ascii_digits}

-- What a decimal spells, taken apart. A part that is not there has no digits.
pub record Spelling : Type 0 where
  -- the sign is a minus
  pub negative : Bool
  -- the digits before the point
  pub whole : List ℕ
  -- the digits after the point
  pub fraction : List ℕ
  -- the sign of the exponent is a minus
  pub lowers : Bool
  pub exponent : List ℕ

-- ---- the grammar

-- one digit or more, and nothing else
abbrev pub IsDigits : List ℕ → Type 0
IsDigits ds = (all_ascii_digits ds ≡ true) × (0 < length ds)

-- a plus, a minus, or nothing; with whether it is a minus
pub data IsSign : List ℕ → Bool → Type 0 where
  unsigned : IsSign [] false
  plus : IsSign (43 ∷ []) false
  minus : IsSign (45 ∷ []) true

-- the digits round the point (46), which may be missing, as may be the digits on one side of it
pub data IsMantissa (text whole fraction : List ℕ) : Type 0 where
  no_point : text ≡ whole → IsDigits whole → fraction ≡ [] → IsMantissa text whole fraction
  point_last : text ≡ whole ++ (46 ∷ []) → IsDigits whole → fraction ≡ [] → IsMantissa text whole fraction
  point_inside : text ≡ whole ++ (46 ∷ fraction) → IsDigits whole → IsDigits fraction → IsMantissa text whole fraction
  point_first : text ≡ 46 ∷ fraction → whole ≡ [] → IsDigits fraction → IsMantissa text whole fraction

-- `e` (101) or `E` (69), a sign and digits; or nothing
pub data IsPower (text : List ℕ) (lowers : Bool) (exponent : List ℕ) : Type 0 where
  no_power : text ≡ [] → lowers ≡ false → exponent ≡ [] → IsPower text lowers exponent
  power : (letter : ℕ) (sign : List ℕ) → (letter ≡ 101) ⊎ (letter ≡ 69) → IsSign sign lowers → IsDigits exponent → text ≡ letter ∷ (sign ++ exponent) → IsPower text lowers exponent

-- the text is a decimal with these parts
pub record Spells (text : List ℕ) (p : Spelling) : Type 0 where
  pub sign : List ℕ
  pub mantissa : List ℕ
  pub power : List ℕ
  pub joined : text ≡ sign ++ (mantissa ++ power)
  pub is_sign : IsSign sign p.negative
  pub is_mantissa : IsMantissa mantissa p.whole p.fraction
  pub is_power : IsPower power p.lowers p.exponent

-- ---- the value

-- A number by its digits: each counts ten to the number of digits behind it.
abbrev pub number : List ℕ → ℕ
number [] = 0
number (c ∷ cs) = (c - 48) * 10 ^ length cs + number cs

-- a fraction of two whole numbers, the lower one above 0
pub record Fraction : Type 0 where
  pub numerator : ℤ
  pub denominator : ℕ

abbrev pub signed : Bool → ℕ → ℤ
signed false n = pos n
signed true n = neg_ℤ (pos n)

-- ten to which power the exponent multiplies or divides by
abbrev pub raised : Bool → List ℕ → ℕ
raised false exponent = number exponent
raised true exponent = 0

abbrev pub lowered : Bool → List ℕ → ℕ
lowered false exponent = 0
lowered true exponent = number exponent

-- The exact value: all digits as one number, over a power of ten for each digit after the point, times the power of ten.
abbrev pub value : Spelling → Fraction
value p = record {
  numerator = signed p.negative (number (p.whole ++ p.fraction) * 10 ^ raised p.lowers p.exponent);
  denominator = 10 ^ (length p.fraction + lowered p.lowers p.exponent);
}

abbrev pub times : ℤ → Fraction → Fraction
times k f = record { numerator = k *ℤ f.numerator; denominator = f.denominator }

-- ---- whole numbers of a fraction

-- what stands behind the point is dropped, toward zero
abbrev pub cut : Fraction → ℤ
cut f = int_div f.numerator (pos f.denominator)

-- n is the greatest whole number that is not above the fraction and one half:
-- n ≤ f + 1/2 < n + 1
pub record IsRounded (f : Fraction) (n : ℤ) : Type 0 where
  pub not_above : ((pos 2 *ℤ n) *ℤ pos f.denominator) ≤ℤ ((pos 2 *ℤ f.numerator) +ℤ pos f.denominator)
  pub greatest : ((pos 2 *ℤ f.numerator) +ℤ pos f.denominator) <ℤ ((pos 2 *ℤ (n +ℤ pos 1)) *ℤ pos f.denominator)
