-- What the code's sum tells of two sides of boxes.
use Rattle.std.proofs.Common.{◌≡◌, ℤ, pos, neg_ℤ, ◌+ℤ◌, ◌*ℤ◌, ◌≤ℤ◌, true, arith}
use Rattle.std.proofs.lemmas.Int.{ints}
use Rattle.std.specs.Int.Signed.{le_z}
use Rattle.geo_seg.proofs.Passed.{passed}

pub side_is_clear : (high low n : ℤ) → neg_ℤ (pos 2000000000) ≤ℤ high → high ≤ℤ pos 2000000000 → neg_ℤ (pos 2000000000) ≤ℤ low → low ≤ℤ pos 2000000000 → pos 0 ≤ℤ n → n ≤ℤ pos 500000000
    → le_z (passed (passed high +ℤ passed (passed (pos 2 *ℤ passed n) +ℤ pos 1))) (passed low) ≡ true → (high +ℤ (n +ℤ n +ℤ pos 1)) ≤ℤ low
side_is_clear high low n a b c d f g e = omega (arith, ints, e)

pub from_low : (m low high : ℤ) → m ≤ℤ low → low ≤ℤ high → m ≤ℤ high
from_low m low high h k = omega (arith, ints)
