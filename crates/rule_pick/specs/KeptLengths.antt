-- A length that may be missing, as it is kept: a number below 0 is none.
use Rattle.std.specs.Prelude.{ℤ, pos, negsuc, Option, None, Some}

abbrev pub length_of : ℤ → Option ℤ
length_of (pos n) = Some (pos n)
length_of (negsuc n) = None
