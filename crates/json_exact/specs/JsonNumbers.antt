-- How a number is written (RFC 8259, section 6): a sign, the whole part with no zero before other digits,
-- a fraction and an exponent, of which the whole part alone must be there.
use Rattle.std.specs.Prelude.{◌≡◌, ◌⊎◌, ℕ, List, [], ◌∷◌, ◌++◌, Bool, ◌||◌, ◌==◌, IsTrue}
use Rattle.json_exact.specs.Characters.{within}

abbrev pub is_digit : ℕ → Bool
is_digit b = within 48 57 b

abbrev pub AreDigits : List ℕ → Type 0
AreDigits [] = Unit {0}
AreDigits (b ∷ bs) = IsTrue (is_digit b) × AreDigits bs

-- `-`, or nothing
abbrev pub IsMinus : List ℕ → Type 0
IsMinus bytes = (bytes ≡ []) ⊎ (bytes ≡ 45 ∷ [])

-- `0`, or digits of which the first is none
abbrev pub IsWholePart : List ℕ → Type 0
IsWholePart bytes = (bytes ≡ 48 ∷ []) ⊎ ((d : ℕ) × (ds : List ℕ) × IsTrue (within 49 57 d) × AreDigits ds × (bytes ≡ d ∷ ds))

-- `.` and digits, or nothing
abbrev pub IsFraction : List ℕ → Type 0
IsFraction bytes = (bytes ≡ []) ⊎ ((d : ℕ) × (ds : List ℕ) × IsTrue (is_digit d) × AreDigits ds × (bytes ≡ 46 ∷ d ∷ ds))

-- `e` or `E`
abbrev pub is_mark : ℕ → Bool
is_mark b = (b == 101) || (b == 69)

-- `+` or `-`, or nothing
abbrev pub IsSign : List ℕ → Type 0
IsSign bytes = (bytes ≡ []) ⊎ ((bytes ≡ 43 ∷ []) ⊎ (bytes ≡ 45 ∷ []))

-- the mark, a sign and digits, or nothing
abbrev pub IsExponent : List ℕ → Type 0
IsExponent bytes =
    (bytes ≡ []) ⊎ ((m : ℕ) × (sign : List ℕ) × (d : ℕ) × (ds : List ℕ) × IsTrue (is_mark m) × IsSign sign
    × IsTrue (is_digit d) × AreDigits ds × (bytes ≡ m ∷ (sign ++ d ∷ ds)))

abbrev pub IsNumber : List ℕ → Type 0
IsNumber bytes =
    (minus whole fraction exponent : List ℕ) × IsMinus minus × IsWholePart whole × IsFraction fraction × IsExponent exponent
    × (bytes ≡ minus ++ (whole ++ (fraction ++ exponent)))
