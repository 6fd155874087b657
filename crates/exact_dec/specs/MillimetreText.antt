-- How a number of nanometres is written in millimetres.
use Rattle.std.specs.Prelude.{ℕ, ◌+◌, ◌/◌, ◌%◌, ◌^◌, List, [], ◌∷◌, ◌++◌, map, ℤ, pos, negsuc, unsigned_abs, decimal}

-- a minus (45) before a number below 0
abbrev pub minus_sign : ℤ → List ℕ
minus_sign (pos n) = []
minus_sign (negsuc n) = 45 ∷ []

-- the last six decimal digits of a number
abbrev pub six_digits : ℕ → List ℕ
six_digits n = map (λ place. 48 + (n / 10 ^ place) % 10) (5 ∷ 4 ∷ 3 ∷ 2 ∷ 1 ∷ 0 ∷ [])

-- a minus where it is below 0, the whole millimetres, a point (46) and the six digits of the nanometres
unfoldable pub mm_text : ℤ → List ℕ
mm_text nm = minus_sign nm ++ (decimal (unsigned_abs nm / 1000000) ++ (46 ∷ six_digits (unsigned_abs nm % 1000000)))
