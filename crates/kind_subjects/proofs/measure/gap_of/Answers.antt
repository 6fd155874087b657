use Rattle.std.proofs.Common.{List, refl, sym, ap, subst}
use Rattle.geo_seg.specs.Distances.{IsGap}
use Rattle.geo_seg.proofs.GapLemmas.{gap_same}
use Rattle.int_algebra.proofs.Scalars.{passed, passed_length}
use Rattle.item_copper.proofs.Gaps.{passed_gap, length_below}
use Rattle.kind_subjects.specs.MeasuredPair.{MeasuredPair}
use Rattle.kind_subjects.specs.PairSides.{measured_pair_of, measured_pairs_of, AllMeasuredPairsKeep}
use Rattle.kind_subjects.proofs.FacedLists.{one_gap, two_gap}
use Rattle.kind_subjects.proofs.measure.gap_of.Goals as goal

pub returns-in-OneWay : goal.returns-in-OneWay
returns-in-OneWay c =
    let most = passed c.args.most in
    passed_gap _ c.args.most c.sides_gap.result c.requires
    (subst (λ (fs : List MeasuredPair). IsGap (AllMeasuredPairsKeep fs) most c.sides_gap.result) (sym (ap measured_pairs_of c.in-OneWay.is)) (one_gap (measured_pair_of c.in-OneWay.one) most c.sides_gap.result c.sides_gap.ensures))

pub returns-in-BothWays : goal.returns-in-BothWays
returns-in-BothWays c =
    let most = passed c.args.most in
    let low = length_below c.args.most c.sides_gap-gap.result c.requires c.sides_gap-gap.ensures in
    let back = gap_same (passed_length c.sides_gap-gap.result low.from low.to) refl c.sides_gap-in-BothWays.ensures in
    passed_gap _ c.args.most c.sides_gap-in-BothWays.result c.requires
    (subst (λ (fs : List MeasuredPair). IsGap (AllMeasuredPairsKeep fs) most c.sides_gap-in-BothWays.result) (sym (ap measured_pairs_of c.in-BothWays.is))
    (two_gap (measured_pair_of c.in-BothWays.there) (measured_pair_of c.in-BothWays.back) most c.sides_gap-gap.result c.sides_gap-in-BothWays.result c.sides_gap-gap.ensures back))
