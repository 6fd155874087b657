use Rattle.std.proofs.Common.{◌∙◌, sym, ℤ, ◌≤ℤ◌, arith}
use Rattle.std.proofs.lemmas.Int.{ints}
use Rattle.row_check.proofs.copper.are_apart.Goals as goal

along : (u v w : ℤ) → u ≤ℤ v → v ≤ℤ w → u ≤ℤ w
along u v w h k = omega (arith, ints)

pub returns : goal.returns
returns c = λ clear.
    let two = c.with_own-most.ensures in
    let one = c.with_own.ensures in record {
      copper = sym c.are_copper.ensures ∙ c.if-not-are_copper.false;
      most = c.with_own-most.result.nm;
      some = c.with_own-most.result.in_range.from;
      least_within = along _ _ _ one.old two.old;
      first = record { local = λ nm e. along _ _ _ (one.asked.local nm e) two.old; class_clearance = along _ _ _ one.asked.class_clearance two.old };
      second = two.asked;
      clear = c.are_clear.ensures clear;
    }
