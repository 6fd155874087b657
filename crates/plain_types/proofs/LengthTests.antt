-- What the test of a length says, as a fact.
use Rattle.std.proofs.Common.{◌≡◌, refl, ℤ, pos, ◌≤ℤ◌, Bool, true, false, ◌&&◌, arith}
use Rattle.std.specs.Int.Signed.{le_z}
use Rattle.std.proofs.lemmas.Int.{ints}
use Rattle.plain_types.specs.Lengths.{IsLength, is_length, greatest}

le_by_test : (a b : ℤ) → le_z a b ≡ true → a ≤ℤ b
le_by_test a b h = grind (arith, ints)

pub length_in_range : (n : ℤ) → is_length n ≡ true → IsLength n
length_in_range n h = both (le_z (pos 0) n) (le_z n greatest) refl refl h
  where
    both : (a b : Bool) → le_z (pos 0) n ≡ a → le_z n greatest ≡ b → a && b ≡ true → IsLength n
    both true true k l _ = record { from = le_by_test (pos 0) n k; to = le_by_test n greatest l }
    both true false _ _ h = absurd cc
    both false b _ _ h = absurd cc
