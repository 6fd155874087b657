use Rattle.std.proofs.Common.{ℤ, refl}
use Rattle.geo_seg.specs.Inside.{outline}
use Rattle.geo_seg.proofs.Choices.{or_first, or_second, through}
use Rattle.geo_seg.proofs.Passed.{at_d}
use Rattle.geo_poly.specs.OutlineEdges.{SomeReached}
use Rattle.geo_poly.proofs.Answers.{poly_within_code}
use Rattle.geo_poly.proofs.polygons.areas_within.Goals as goal

pub returns-then-either_inside : goal.returns-then-either_inside
returns-then-either_inside c = through _ (or_first _ _ c.either_inside.ensures c.if-either_inside.true refl) (poly_within_code c.args.d c.args.a.now c.args.b.now)

pub returns-else-either_inside : goal.returns-else-either_inside
returns-else-either_inside c =
    let cs = c.args.a.now in let ks = c.args.b.now in let d = c.args.d in
    through _ (or_second _ _ _ c.either_inside.ensures (at_d (λ (z : ℤ). SomeReached z (outline cs) (outline ks)) d _ c.requires.from c.requires.to c.outlines_within.ensures) c.if-either_inside.false refl) (poly_within_code d cs ks)
