-- Signed numbers that are passed from call to call. A goal shows each as its bits and back; here it stands for itself.
use Rattle.std.proofs.Common.{◌≡◌, ◌≤◌, unsigned_abs, ℤ, pos, negsuc, ◌*ℤ◌, ◌≤ℤ◌, FitsSigned, to_z, of_z, subst, arith}
use Rattle.std.proofs.lemmas.Int.{ints, to_z-of_z}
use mir.Syntax.{w64, w128}

-- a number that was passed as bits, in 64 of them and in 128
abbrev pub passed : ℤ → ℤ
passed z = to_z w64 (of_z w64 z)

abbrev pub passed_wide : ℤ → ℤ
passed_wide z = to_z w128 (of_z w128 z)

-- ---- numbers of 64 bits: a parameter, a field, a result
pub clean : (z : ℤ) → FitsSigned w64 z → passed z ≡ z
clean z fits = to_z-of_z w64 z fits

-- the same for what is said of such a number
pub cleaned : (P : ℤ → Type 0) (z : ℤ) → FitsSigned w64 z → P (passed z) → P z
cleaned P z fits h = subst (λ (n : ℤ). P n) (clean z fits) h

-- ---- numbers that are known to be small enough
pub fits_far : (z : ℤ) → unsigned_abs z ≤ 8000000000000000000 → FitsSigned w64 z
fits_far (pos n) h = record { sfits = omega (arith, ints) }
fits_far (negsuc n) h = record { sfits = omega (arith, ints) }

pub passed_is : (z : ℤ) → unsigned_abs z ≤ 8000000000000000000 → passed z ≡ z
passed_is z h = omega (arith, ints)

pub wide_is : (z : ℤ) → unsigned_abs z ≤ 8000000000000000000 → passed_wide (passed z) ≡ z
wide_is z h = omega (arith, ints)

-- ---- lengths and distances: numbers from 0 on
pub passed_to : (z most : ℤ) → pos 0 ≤ℤ z → z ≤ℤ most → most ≤ℤ pos 8000000000000000000 → passed z ≡ z
passed_to z most h k l = omega (arith, ints)

-- from 0 to 500,000,000, as the lengths of a board in nanometres and the radii of its shapes
pub passed_length : (z : ℤ) → pos 0 ≤ℤ z → z ≤ℤ pos 500000000 → passed z ≡ z
passed_length z h k = omega (arith, ints)

-- the doubled length, in half nanometres
pub doubled_fits : (z : ℤ) → unsigned_abs z ≤ 4000000000000000000 → FitsSigned w64 (pos 2 *ℤ z)
doubled_fits (pos n) h = record { sfits = omega (arith, ints) }
doubled_fits (negsuc n) h = record { sfits = omega (arith, ints) }

pub passed_doubled : (z : ℤ) → unsigned_abs z ≤ 4000000000000000000 → passed (pos 2 *ℤ passed z) ≡ pos 2 *ℤ z
passed_doubled z h = omega (arith, ints)
