-- What a test of a signed number says, as a fact.
use Rattle.std.proofs.Common.{◌≡◌, refl, ℤ, pos, neg_ℤ, ◌*ℤ◌, ◌≤ℤ◌, ◌≤◌, unsigned_abs, Bool, true, false, ◌&&◌, arith}
use Rattle.std.specs.Int.Signed.{le_z}
use Rattle.std.proofs.lemmas.Int.{ints}

-- both tests hold where both together do
pub front : (a b : Bool) → a && b ≡ true → a ≡ true
front true b h = refl
front false b h = absurd cc

pub back : (a b : Bool) → a && b ≡ true → b ≡ true
back true b h = h
back false b h = absurd cc

pub le_by_test : (a b : ℤ) → le_z a b ≡ true → a ≤ℤ b
le_by_test a b h = grind (arith, ints)

-- at most 500,000,000 from 0, so the double is at most 1,000,000,000 from 0
pub doubled_by_tests : (z : ℤ) → le_z (neg_ℤ (pos 500000000)) z ≡ true → le_z z (pos 500000000) ≡ true → unsigned_abs (pos 2 *ℤ z) ≤ 1000000000
doubled_by_tests z k l = omega (arith, ints, k, l)
