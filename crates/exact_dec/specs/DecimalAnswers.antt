-- What each call answers for a text, as a relation over the grammar and the exact value.
use Rattle.std.specs.Prelude.{◌≡◌, ℕ, ◌≤◌, Bool, true, false, ◌||◌, List, ◌++◌, length, codes, ℤ, pos, ◌*ℤ◌, int_lt, unsigned_abs, nat_lt, Result, Ok, Err}
use Rattle.exact_dec.specs.declared.DecError.{DecError}
use Rattle.exact_dec.specs.declared.DecError.TheVariants.{BadNumber, TooWide}
use Rattle.exact_dec.specs.Decimal.{Spelling, Spells, IsDigits, Fraction, number, value, times, cut, IsRounded}

-- The three answers. `Gives n over` says that the text is in the grammar of the call and stands for n, and whether it
-- is over a limit. So: the number where it is over none, TooWide where it is over one, BadNumber outside the grammar.
pub data Reads {A : Type 0} (Gives : A → Bool → Type 0) : Result A DecError → Type 0 where
  within : (n : A) → Gives n false → Reads Gives (Ok n)
  too_wide : (n : A) → Gives n true → Reads Gives (Err TooWide)
  bad_number : ((n : A) (over : Bool) → Gives n over → ⊥) → Reads Gives (Err BadNumber)

-- ---- the limits

-- more than 64 bytes, or more than three digits of the exponent
abbrev pub is_long : List ℕ → Spelling → Bool
is_long text p = nat_lt 64 (length text) || nat_lt 3 (length p.exponent)

-- more than 10^12 nanometres either way
abbrev pub is_far : ℤ → Bool
is_far n = nat_lt 1000000000000 (unsigned_abs n)

-- a ratio below 0 or above one half
abbrev pub is_no_half : Fraction → Bool
is_no_half f = int_lt f.numerator (pos 0) || int_lt (pos f.denominator) (pos 2 *ℤ f.numerator)

abbrev pub no_more : Fraction → Bool
no_more f = false

-- ---- numbers with a scale

-- The text stands for n: it has these parts in this form, where one of them counts `unit` nanometres, and n is the
-- rounded number of nanometres. It is over a limit where it is long, the rounded number is far, or the fraction is beyond.
pub record Gives (text : List ℕ) (Form : Spelling → ℤ → Type 0) (Rounded : Fraction → ℤ → Type 0) (beyond : Fraction → Bool) (n : ℤ) (over : Bool) : Type 0 where
  pub parts : Spelling
  pub unit : ℤ
  pub form : Form parts unit
  pub rounded : Rounded (times unit (value parts)) n
  pub limits : over ≡ (is_long text parts || (is_far n || beyond (value parts)))

abbrev pub IsCut : Fraction → ℤ → Type 0
IsCut f n = n ≡ cut f

-- a decimal, of which one counts as much as the unit says
pub data IsPlain (text : List ℕ) (unit : ℤ) : Spelling → ℤ → Type 0 where
  plain : (p : Spelling) → Spells text p → IsPlain text unit p unit

-- a millimetre, a thousandth of an inch and an inch
pub data IsLengthUnit : List ℕ → ℤ → Type 0 where
  millimetre : IsLengthUnit (codes "mm") (pos 1000000)
  mil : IsLengthUnit (codes "mil") (pos 25400)
  inch : IsLengthUnit (codes "in") (pos 25400000)

-- a decimal followed at once by its unit; or a decimal of value 0 alone, of which it doesn't matter what one counts
pub data HasUnit (text : List ℕ) : Spelling → ℤ → Type 0 where
  with_unit : (p : Spelling) (decimal unit : List ℕ) (nanometres : ℤ) → text ≡ decimal ++ unit → Spells decimal p → IsLengthUnit unit nanometres → HasUnit text p nanometres
  zero_alone : (p : Spelling) → Spells text p → (value p).numerator ≡ pos 0 → HasUnit text p (pos 0)

-- millimetres, cut toward zero to whole nanometres
abbrev pub MmCut : List ℕ → Result ℤ DecError → Type 0
MmCut text = Reads (Gives text (IsPlain text (pos 1000000)) IsCut no_more)

-- millimetres, to the nearest nanometre, ties upward
abbrev pub MmNear : List ℕ → Result ℤ DecError → Type 0
MmNear text = Reads (Gives text (IsPlain text (pos 1000000)) IsRounded no_more)

-- a part of a length, from nothing to one half of it, to the nearest nanometre, ties upward
abbrev pub RatioNear : List ℕ → ℤ → Result ℤ DecError → Type 0
RatioNear text whole = Reads (Gives text (IsPlain text whole) IsRounded is_no_half)

-- a length with its unit, to the nearest nanometre, ties upward
abbrev pub WithUnit : List ℕ → Result ℤ DecError → Type 0
WithUnit text = Reads (Gives text (HasUnit text) IsRounded no_more)

-- ---- counts

-- one to ten digits, over the limit above 4,294,967,295
pub record CountGives (text : List ℕ) (n : ℕ) (over : Bool) : Type 0 where
  pub digits : IsDigits text
  pub ten : length text ≤ 10
  pub counted : n ≡ number text
  pub limits : over ≡ nat_lt 4294967295 n

abbrev pub Count : List ℕ → Result ℕ DecError → Type 0
Count text = Reads (CountGives text)
