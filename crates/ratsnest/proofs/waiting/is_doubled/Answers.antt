use Rattle.std.proofs.Common.{refl, sym}
use Rattle.ratsnest.proofs.waiting.is_doubled.Goals as goal

pub returns-then-is_lower_twin : goal.returns-then-is_lower_twin
returns-then-is_lower_twin c = λ yes. record {
  twin = c.other-item.result;
  there = (c.loop-other.other-index, c.loop-other-test.true, sym c.other-item.is);
  lower = (c.if-is_lower_twin.ensures refl).0;
  x = (c.if-is_lower_twin.ensures refl).1;
  y = (c.if-is_lower_twin.ensures refl).2;
}
