-- Lengths as they are kept.
use Rattle.std.proofs.Common.{◌≡◌, refl, ℤ, pos, negsuc, ◌≤ℤ◌, ◌<ℤ◌, None, Some, arith}
use Rattle.std.proofs.lemmas.Int.{ints}
use Rattle.rule_pick.specs.KeptLengths.{length_of}

pub kept_none : (z : ℤ) → z <ℤ pos 0 → length_of z ≡ None
kept_none (pos n) l = absurd (omega (arith, ints, l))
kept_none (negsuc n) l = refl

pub kept_some : (z : ℤ) → pos 0 ≤ℤ z → length_of z ≡ Some z
kept_some (pos n) l = refl
kept_some (negsuc n) l = absurd (omega (arith, ints, l))
