use Rattle.std.proofs.Common.{ℤ, sym}
use Rattle.geo_seg.specs.declared.shapes.Core.{Core}
use Rattle.geo_seg.specs.Points.{IsOn}
use Rattle.geo_seg.specs.Inside.{IsInside}
use Rattle.geo_seg.specs.Cores.{IsPointOf}
use Rattle.geo_seg.specs.Nearer.{AreApart}
use Rattle.geo_seg.proofs.Passed.{at_d}
use Rattle.geo_poly.proofs.Answers.{iff_at}
use Rattle.geo_shape.proofs.Sides.{apart_turned}
use Rattle.geo_shape.proofs.distances.cores_apart.Goals as goal

pub returns-in-Line : goal.returns-in-Line
returns-in-Line c =
    iff_at (λ (k : Core). AreApart (IsPointOf k) (IsPointOf c.args.b.now) c.args.d) _ _ (sym c.in-Line.is)
    (apart_turned (IsPointOf c.args.b.now) (IsOn c.in-Line.s) c.args.d _
    (at_d (λ (z : ℤ). AreApart (IsPointOf c.args.b.now) (IsOn c.in-Line.s) z) c.args.d _ c.requires.from c.requires.to c.seg_core_apart.ensures))

pub returns-in-Area : goal.returns-in-Area
returns-in-Area c =
    iff_at (λ (k : Core). AreApart (IsPointOf k) (IsPointOf c.args.b.now) c.args.d) _ _ (sym c.in-Area.is)
    (at_d (λ (z : ℤ). AreApart (IsInside c.in-Area.p) (IsPointOf c.args.b.now) z) c.args.d _ c.requires.from c.requires.to c.poly_core_apart.ensures)
