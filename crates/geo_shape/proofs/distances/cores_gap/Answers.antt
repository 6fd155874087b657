use Rattle.std.proofs.Common.{sym, subst}
use Rattle.int_algebra.proofs.Scalars.{passed}
use Rattle.geo_seg.specs.declared.shapes.Core.{Core}
use Rattle.geo_seg.specs.Points.{IsOn}
use Rattle.geo_seg.specs.Cores.{IsPointOf}
use Rattle.geo_seg.specs.Nearer.{AreApart}
use Rattle.geo_seg.specs.Distances.{IsGap}
use Rattle.geo_seg.proofs.GapLemmas.{gap_passed}
use Rattle.geo_shape.proofs.Sides.{gap_turned}
use Rattle.geo_shape.proofs.distances.cores_gap.Goals as goal

pub returns-in-Line : goal.returns-in-Line
returns-in-Line c =
    subst (λ (k : Core). IsGap (λ d. AreApart (IsPointOf k) (IsPointOf c.args.b.now) d) c.args.most (passed c.seg_core_gap.result)) (sym c.in-Line.is)
    (gap_turned (IsPointOf c.args.b.now) (IsOn c.in-Line.s) c.args.most _
    (gap_passed c.args.most _ c.requires c.seg_core_gap.ensures))

pub returns-in-Area : goal.returns-in-Area
returns-in-Area c =
    subst (λ (k : Core). IsGap (λ d. AreApart (IsPointOf k) (IsPointOf c.args.b.now) d) c.args.most (passed c.poly_core_gap.result)) (sym c.in-Area.is)
    (gap_passed c.args.most _ c.requires c.poly_core_gap.ensures)
