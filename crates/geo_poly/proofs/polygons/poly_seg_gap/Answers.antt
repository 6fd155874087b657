use Rattle.std.proofs.Common.{arith}
use Rattle.std.proofs.lemmas.Int.{ints}
use Rattle.geo_seg.specs.Points.{IsOn}
use Rattle.geo_seg.specs.Nearer.{AreApart}
use Rattle.geo_seg.specs.Inside.{EachEdge, outline, IsInside}
use Rattle.geo_seg.proofs.Choices.{fails_by}
use Rattle.geo_seg.proofs.Passed.{d_kept}
use Rattle.geo_seg.proofs.GapLemmas.{gap_same, gap_none, gap_along, above}
use Rattle.geo_poly.specs.OutlineEdges.{IsApart}
use Rattle.geo_poly.proofs.Answers.{seg_apart_code}
use Rattle.geo_poly.proofs.polygons.poly_seg_gap.Goals as goal

pub returns-then-is_enclosed : goal.returns-then-is_enclosed
returns-then-is_enclosed c =
    let cs = c.args.poly.now in let s = c.args.s in
    gap_none (λ d. AreApart (IsInside cs) (IsOn s) d) c.args.most c.requires.from (λ g some to far. ((seg_apart_code g (above g some) cs s).0 far).0 (c.is_enclosed.ensures.0 c.if-is_enclosed.true))

pub returns-else-is_enclosed : goal.returns-else-is_enclosed
returns-else-is_enclosed c =
    let cs = c.args.poly.now in let s = c.args.s in let is = c.outline_gap.ensures in
    let outside = fails_by _ c.is_enclosed.ensures c.if-is_enclosed.false in
    gap_along (λ d. EachEdge (λ e. IsApart e s d) (outline cs)) (λ d. AreApart (IsInside cs) (IsOn s) d) c.args.most _
    (λ g some. let same = seg_apart_code g (above g some) cs s in (λ far. (same.0 far).1, λ far. same.1 (outside, far)))
    (gap_same (d_kept c.args.most c.requires.from c.requires.to) (omega (arith, ints, is.from, is.to, c.requires.to, c.requires.from)) is)
