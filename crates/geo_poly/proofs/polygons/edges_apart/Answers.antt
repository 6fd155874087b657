use Rattle.std.proofs.Common.{ℤ, subst, sym, eq-eqb}
use Rattle.geo_seg.specs.Points.{IsOn, rational_point_of}
use Rattle.geo_seg.specs.Nearer.{AreApart}
use Rattle.geo_seg.specs.Inside.{EachEdge, outline, IsInside}
use Rattle.geo_seg.proofs.Choices.{through}
use Rattle.geo_seg.proofs.Passed.{d_zero, d_positive, at_d}
use Rattle.geo_poly.specs.OutlineEdges.{IsApart, IsEnclosed}
use Rattle.geo_poly.proofs.Answers.{apart_zero, seg_apart_code}
use Rattle.geo_poly.proofs.polygons.edges_apart.Goals as goal

pub returns-then-d-eq0 : goal.returns-then-d-eq0
returns-then-d-eq0 c =
    let cs = c.args.poly.now in let s = c.args.s in let d = c.args.d in
    (λ _. subst (λ (z : ℤ). AreApart (IsInside cs) (IsOn s) z) (sym (d_zero d c.requires.from c.requires.to c.if-d-eq0.true)) (apart_zero (IsInside cs) (IsOn s)), λ _. eq-eqb _ _ c.if-d-eq0.true)

pub returns-else-d-eq0 : goal.returns-else-d-eq0
returns-else-d-eq0 c =
    let cs = c.args.poly.now in let s = c.args.s in let d = c.args.d in
    through _ (at_d (λ (z : ℤ). (¬ (IsEnclosed cs (rational_point_of s.a))) × EachEdge (λ e. IsApart e s z) (outline cs)) d _ c.requires.from c.requires.to c.is_beyond.ensures)
    (seg_apart_code d (d_positive d c.requires.from c.requires.to c.if-d-eq0.false) cs s)
