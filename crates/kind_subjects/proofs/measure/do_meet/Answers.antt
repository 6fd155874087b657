use Rattle.std.proofs.Common.{◌↔◌, List, IsTrue, sym, ap, subst}
use Rattle.item_copper.proofs.Chosen.{not_false}
use Rattle.kind_subjects.specs.MeasuredPair.{MeasuredPair}
use Rattle.kind_subjects.specs.PairSides.{measured_pair_of, measured_pairs_of, SomeMeasuredPairMeets}
use Rattle.kind_subjects.proofs.FacedLists.{one_meets, first_meets, second_meets}
use Rattle.kind_subjects.proofs.measure.do_meet.Goals as goal

pub returns-in-OneWay : goal.returns-in-OneWay
returns-in-OneWay c =
    subst (λ (fs : List MeasuredPair). IsTrue c.sides_meet.result ↔ SomeMeasuredPairMeets fs) (sym (ap measured_pairs_of c.in-OneWay.is)) (one_meets (measured_pair_of c.in-OneWay.one) c.sides_meet.result c.sides_meet.ensures)

pub returns-then-sides_meet : goal.returns-then-sides_meet
returns-then-sides_meet c =
    let r = c.sides_meet-in-BothWays.result in
    subst (λ (fs : List MeasuredPair). IsTrue r ↔ SomeMeasuredPairMeets fs) (sym (ap measured_pairs_of c.in-BothWays.is))
    (first_meets (measured_pair_of c.in-BothWays.there) (measured_pair_of c.in-BothWays.back) r c.if-sides_meet.true (c.sides_meet-in-BothWays.ensures.0 c.if-sides_meet.true))

pub returns-else-sides_meet : goal.returns-else-sides_meet
returns-else-sides_meet c =
    let r = c.sides_meet-else-sides_meet.result in
    subst (λ (fs : List MeasuredPair). IsTrue r ↔ SomeMeasuredPairMeets fs) (sym (ap measured_pairs_of c.in-BothWays.is))
    (second_meets (measured_pair_of c.in-BothWays.there) (measured_pair_of c.in-BothWays.back) r (λ m. not_false _ c.if-sides_meet.false (c.sides_meet-in-BothWays.ensures.1 m)) c.sides_meet-else-sides_meet.ensures)
