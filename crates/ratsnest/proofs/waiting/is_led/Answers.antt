use Rattle.std.proofs.Common.{refl, sym}
use Rattle.ratsnest.proofs.waiting.is_led.Goals as goal

pub returns-then-leads : goal.returns-then-leads
returns-then-leads c = λ yes. record {
  lead = c.index-waiting-k.result;
  there = (c.loop-k.k, c.loop-k-test.true, sym c.index-waiting-k.is);
  group = (c.if-leads.ensures refl).0;
  x = (c.if-leads.ensures refl).1;
  y = (c.if-leads.ensures refl).2;
}
