-- How large the square of a distance on the board is.
use Rattle.std.proofs.Common.{◌≡◌, ◌*◌, ◌≤◌, ℤ, pos, negsuc, ◌-ℤ◌, ◌*ℤ◌, unsigned_abs, FitsSigned, arith, mul-le-mul, refl}
use Rattle.std.proofs.lemmas.Int.{ints, fits_signed_mul}
use mir.Syntax.{w64}
use Rattle.int_algebra.proofs.Scalars.{passed, clean}
use Rattle.ratsnest.specs.CoordinateRange.{IsInReach}

pub span : (a b : ℤ) → IsInReach a → IsInReach b → unsigned_abs (a -ℤ b) ≤ 1000000000
span a b h k = omega (arith, ints, h.from, h.to, k.from, k.to)

pub difference_fits : (a b : ℤ) → IsInReach a → IsInReach b → FitsSigned w64 (a -ℤ b)
difference_fits a b h k = omega (arith, ints, h.from, h.to, k.from, k.to)

pub square_fits : (a b : ℤ) → IsInReach a → IsInReach b → FitsSigned w64 ((a -ℤ b) *ℤ (a -ℤ b))
square_fits a b h k = fits_signed_mul w64 (a -ℤ b) (a -ℤ b) 1000000000 1000000000 (span a b h k) (span a b h k) (omega arith)

square_of_abs : (z : ℤ) → z *ℤ z ≡ pos (unsigned_abs z * unsigned_abs z)
square_of_abs (pos n) = refl
square_of_abs (negsuc n) = refl

pub square_is : (a b : ℤ) → (a -ℤ b) *ℤ (a -ℤ b) ≡ pos (unsigned_abs (a -ℤ b) * unsigned_abs (a -ℤ b))
square_is a b = square_of_abs (a -ℤ b)

pub square_small : (a b : ℤ) → IsInReach a → IsInReach b → unsigned_abs (a -ℤ b) * unsigned_abs (a -ℤ b) ≤ 1000000000000000000
square_small a b h k = mul-le-mul (span a b h k) (span a b h k)

-- the same where the numbers, their difference and its square are passed as bits
pub square_passed : (a b : ℤ) → FitsSigned w64 a → FitsSigned w64 b → IsInReach a → IsInReach b →
    passed (passed (passed a -ℤ passed b) *ℤ passed (passed a -ℤ passed b)) ≡ pos (unsigned_abs (a -ℤ b) * unsigned_abs (a -ℤ b))
square_passed a b fa fb h k =
    rw (clean a fa, clean b fb, clean (a -ℤ b) (difference_fits a b h k), clean ((a -ℤ b) *ℤ (a -ℤ b)) (square_fits a b h k)) (square_is a b)
