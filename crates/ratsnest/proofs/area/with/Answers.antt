use Rattle.std.proofs.Common.{arith}
use Rattle.std.proofs.lemmas.Int.{ints}
use Rattle.ratsnest.proofs.area.with.Goals as goal

pub invariant_of-result : goal.invariant_of-result
invariant_of-result c = record {
  low_in_range = record { from = omega (arith, ints, c.lower.ensures.reach.from, c.lower.ensures.reach.to); to = omega (arith, ints, c.lower.ensures.reach.from, c.lower.ensures.reach.to) };
  high_in_range = record { from = omega (arith, ints, c.higher.ensures.reach.from, c.higher.ensures.reach.to); to = omega (arith, ints, c.higher.ensures.reach.from, c.higher.ensures.reach.to) };
}
