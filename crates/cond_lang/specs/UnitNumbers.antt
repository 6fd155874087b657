-- Numbers with a unit.
use Rattle.std.specs.Prelude.{ℕ, ◌-◌, Bool, true, ◌||◌, ◌&&◌, ◌==◌, nat_lt, int_lt, if◌then◌else◌, List, [], ◌∷◌, length, take, ℤ, pos, Result, Ok, Err}
use Rattle.plain_types.specs.Lengths.{greatest}
use Rattle.exact_dec.specs.declared.DecError.{DecError}
use Rattle.exact_dec.specs.Computed.{after_sign, prefix_digits, after_digits, with_unit_answer}
use Rattle.cond_lang.specs.Found.{Found, read, and_then, stuck, byte}

-- one digit or more
abbrev pub digits : ℕ → List ℕ → Found (List ℕ)
digits n text = if nat_lt 0 (length (prefix_digits text)) then read (prefix_digits text) (after_digits text) else stuck n text

-- a decimal has the value 0 where all its digits before and behind the point are 0
abbrev pub are_zeros : List ℕ → Bool
are_zeros [] = true
are_zeros (c ∷ cs) = (c == 48) && are_zeros cs

-- a point (46) and any digits, or nothing; and whether all digits so far are 0
abbrev pub fraction : Bool → List ℕ → Found Bool
fraction zero [] = read zero []
fraction zero (c ∷ cs) = if c == 46 then read (zero && are_zeros (prefix_digits cs)) (after_digits cs) else read zero (c ∷ cs)

-- the digits before and behind the point, of which there is one at least
unfoldable pub mantissa : ℕ → List ℕ → Found Bool
mantissa n [] = stuck n []
mantissa n (c ∷ cs) =
    if c == 46 then and_then (digits n cs) (λ ds rest. read (are_zeros ds) rest)
    else and_then (digits n (c ∷ cs)) (λ ds rest. fraction (are_zeros ds) rest)

-- `e` (101) or `E` (69), a sign and digits; or nothing
unfoldable pub power : ℕ → List ℕ → Found (Unit {0})
power n [] = read tt []
power n (c ∷ cs) =
    if ((c == 101) || (c == 69)) then and_then (digits n (after_sign cs)) (λ _ rest. read tt rest) else read tt (c ∷ cs)

-- behind an m (109): `mm` or `mil` (105, 108)
abbrev pub metric : ℕ → List ℕ → Found (Unit {0})
metric n [] = stuck n []
metric n (c ∷ cs) = if c == 109 then read tt cs else (if c == 105 then byte n 108 cs else stuck n (c ∷ cs))

-- the unit, which only a decimal of value 0 may lack
unfoldable pub unit : ℕ → Bool → List ℕ → Found (Unit {0})
unit n zero [] = if zero then read tt [] else stuck n []
unit n zero (c ∷ cs) =
    if c == 109 then metric n cs
    else (if c == 105 then byte n 110 cs else (if zero then read tt (c ∷ cs) else stuck n (c ∷ cs)))

-- the bytes of a number
unfoldable pub spelled : ℕ → List ℕ → Found (Unit {0})
spelled n text =
    and_then (mantissa n (after_sign text)) (λ zero rest. and_then (power n rest) (λ _ behind. unit n zero behind))

-- a length from 0 to 500 mm, else the number is bad
abbrev pub in_range : ℕ → List ℕ → List ℕ → Result ℤ DecError → Found ℤ
in_range n text rest (Err e) = stuck n text
in_range n text rest (Ok nm) = if int_lt nm (pos 0) || int_lt greatest nm then stuck n text else read nm rest

unfoldable pub measure : ℕ → List ℕ → Found ℤ
measure n text = and_then (spelled n text) (λ _ rest. in_range n text rest (with_unit_answer (take (length text - length rest) text)))
