use Rattle.std.proofs.Common.{List, subst}
use Rattle.geo_seg.specs.Distances.{IsGap}
use Rattle.int_algebra.proofs.Scalars.{passed}
use Rattle.item_copper.proofs.Gaps.{passed_gap}
use Rattle.kind_subjects.specs.MeasuredPair.{MeasuredPair}
use Rattle.kind_subjects.specs.PairSides.{AllMeasuredPairsKeep}
use Rattle.kind_subjects.proofs.measure.gap_at.Goals as goal

pub returns : goal.returns
returns c =
    passed_gap _ c.args.most c.gap_of.result c.requires.most
    (subst (λ (fs : List MeasuredPair). IsGap (AllMeasuredPairsKeep fs) (passed c.args.most) c.gap_of.result) c.requires.same c.gap_of.ensures)
