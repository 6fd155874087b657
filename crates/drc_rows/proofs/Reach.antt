-- The places of anchors can be written.
use Rattle.std.proofs.Common.{◌≡◌, ◌≤◌, ℤ, unsigned_abs, sym, subst, arith}
use Rattle.std.proofs.lemmas.Int.{ints}
use Rattle.int_algebra.proofs.Scalars.{passed, passed_is}
use Rattle.ratsnest.specs.CoordinateRange.{IsInReach}

small : (z : ℤ) → IsInReach z → unsigned_abs z ≤ 500000000
small z r = omega (arith, ints, r.from, r.to)

pub reach_fits : (z : ℤ) → IsInReach z → passed z ≡ z
reach_fits z r = let h = small z r in passed_is z (omega arith)

pub reach_far : (z : ℤ) → IsInReach z → unsigned_abs (passed z) ≤ 1000000000000
reach_far z r = let h = small z r in subst (λ (n : ℤ). unsigned_abs n ≤ 1000000000000) (sym (reach_fits z r)) (omega arith)
