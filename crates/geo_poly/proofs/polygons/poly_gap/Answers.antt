use Rattle.std.proofs.Common.{arith}
use Rattle.std.proofs.lemmas.Int.{ints}
use Rattle.geo_seg.specs.Nearer.{AreApart}
use Rattle.geo_seg.specs.Inside.{outline, IsInside}
use Rattle.geo_seg.proofs.Choices.{fails_by}
use Rattle.geo_seg.proofs.Passed.{d_kept}
use Rattle.geo_seg.proofs.GapLemmas.{gap_same, gap_none, gap_along, above}
use Rattle.geo_poly.specs.OutlineEdges.{EachApart}
use Rattle.geo_poly.proofs.Answers.{poly_apart_code}
use Rattle.geo_poly.proofs.polygons.poly_gap.Goals as goal

pub returns-then-either_inside : goal.returns-then-either_inside
returns-then-either_inside c =
    let cs = c.args.a.now in let ks = c.args.b.now in
    gap_none (λ d. AreApart (IsInside cs) (IsInside ks) d) c.args.most c.requires.from (λ g some to far. ((poly_apart_code g (above g some) cs ks).0 far).0 (c.either_inside.ensures.0 c.if-either_inside.true))

pub returns-else-either_inside : goal.returns-else-either_inside
returns-else-either_inside c =
    let cs = c.args.a.now in let ks = c.args.b.now in let is = c.outlines_gap.ensures in
    let outside = fails_by _ c.either_inside.ensures c.if-either_inside.false in
    gap_along (λ d. EachApart d (outline cs) (outline ks)) (λ d. AreApart (IsInside cs) (IsInside ks) d) c.args.most _
    (λ g some. let same = poly_apart_code g (above g some) cs ks in (λ far. (same.0 far).1, λ far. same.1 (outside, far)))
    (gap_same (d_kept c.args.most c.requires.from c.requires.to) (omega (arith, ints, is.from, is.to, c.requires.to, c.requires.from)) is)
