use Rattle.std.proofs.Common.{ℤ, sym}
use Rattle.geo_seg.specs.declared.shapes.Core.{Core}
use Rattle.geo_seg.specs.Points.{IsOn}
use Rattle.geo_seg.specs.Inside.{IsInside}
use Rattle.geo_seg.specs.Cores.{IsPointOf}
use Rattle.geo_seg.specs.Nearer.{AreApart}
use Rattle.geo_seg.proofs.Passed.{at_d}
use Rattle.geo_poly.proofs.Answers.{iff_at}
use Rattle.geo_shape.proofs.distances.seg_core_apart.Goals as goal

pub returns-in-Line : goal.returns-in-Line
returns-in-Line c =
    iff_at (λ (k : Core). AreApart (IsPointOf k) (IsOn c.args.s) c.args.d) _ _ (sym c.in-Line.is)
    (at_d (λ (z : ℤ). AreApart (IsOn c.in-Line.t) (IsOn c.args.s) z) c.args.d _ c.requires.from c.requires.to c.seg_apart.ensures)

pub returns-in-Area : goal.returns-in-Area
returns-in-Area c =
    iff_at (λ (k : Core). AreApart (IsPointOf k) (IsOn c.args.s) c.args.d) _ _ (sym c.in-Area.is)
    (at_d (λ (z : ℤ). AreApart (IsInside c.in-Area.p) (IsOn c.args.s) z) c.args.d _ c.requires.from c.requires.to c.poly_seg_apart.ensures)
