use Rattle.std.proofs.Common.{sym, subst}
use Rattle.int_algebra.proofs.Scalars.{passed}
use Rattle.geo_seg.specs.declared.shapes.Core.{Core}
use Rattle.geo_seg.specs.Points.{IsOn}
use Rattle.geo_seg.specs.Cores.{IsPointOf}
use Rattle.geo_seg.specs.Nearer.{AreApart}
use Rattle.geo_seg.specs.Distances.{IsGap}
use Rattle.geo_seg.proofs.GapLemmas.{gap_passed}
use Rattle.geo_shape.proofs.distances.seg_core_gap.Goals as goal

pub returns-in-Line : goal.returns-in-Line
returns-in-Line c =
    subst (λ (k : Core). IsGap (λ d. AreApart (IsPointOf k) (IsOn c.args.s) d) c.args.most (passed c.seg_gap.result)) (sym c.in-Line.is)
    (gap_passed c.args.most _ c.requires c.seg_gap.ensures)

pub returns-in-Area : goal.returns-in-Area
returns-in-Area c =
    subst (λ (k : Core). IsGap (λ d. AreApart (IsPointOf k) (IsOn c.args.s) d) c.args.most (passed c.poly_seg_gap.result)) (sym c.in-Area.is)
    (gap_passed c.args.most _ c.requires c.poly_seg_gap.ensures)
