use Rattle.std.proofs.Common.{ℤ, refl, subst, sym, eq-eqb}
use Rattle.geo_seg.specs.Nearer.{AreApart}
use Rattle.geo_seg.specs.Inside.{outline, IsInside}
use Rattle.geo_seg.proofs.Choices.{not_and_first, not_and_second, through}
use Rattle.geo_seg.proofs.Passed.{d_zero, d_positive, at_d}
use Rattle.geo_poly.specs.OutlineEdges.{EachApart}
use Rattle.geo_poly.proofs.Answers.{apart_zero, poly_apart_code}
use Rattle.geo_poly.proofs.polygons.areas_apart.Goals as goal

pub returns-then-d-eq0 : goal.returns-then-d-eq0
returns-then-d-eq0 c =
    let cs = c.args.a.now in let ks = c.args.b.now in let d = c.args.d in
    (λ _. subst (λ (z : ℤ). AreApart (IsInside cs) (IsInside ks) z) (sym (d_zero d c.requires.from c.requires.to c.if-d-eq0.true)) (apart_zero (IsInside cs) (IsInside ks)), λ _. eq-eqb _ _ c.if-d-eq0.true)

pub returns-then-not-either_inside : goal.returns-then-not-either_inside
returns-then-not-either_inside c =
    let cs = c.args.a.now in let ks = c.args.b.now in let d = c.args.d in
    through _ (not_and_second _ _ _ c.either_inside.ensures (at_d (λ (z : ℤ). EachApart z (outline cs) (outline ks)) d _ c.requires.from c.requires.to c.outlines_apart.ensures) c.if-not-either_inside.true refl)
    (poly_apart_code d (d_positive d c.requires.from c.requires.to c.if-d-eq0.false) cs ks)

pub returns-else-not-either_inside : goal.returns-else-not-either_inside
returns-else-not-either_inside c =
    let cs = c.args.a.now in let ks = c.args.b.now in let d = c.args.d in
    through _ (not_and_first _ _ c.either_inside.ensures c.if-not-either_inside.false refl)
    (poly_apart_code d (d_positive d c.requires.from c.requires.to c.if-d-eq0.false) cs ks)
