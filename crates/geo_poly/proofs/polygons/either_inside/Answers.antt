use Rattle.std.proofs.Common.{refl}
use Rattle.geo_seg.proofs.Choices.{or_first, or_second}
use Rattle.geo_poly.proofs.polygons.either_inside.Goals as goal

pub returns-then-ends_inside : goal.returns-then-ends_inside
returns-then-ends_inside c = or_first _ _ c.ends_inside.ensures c.if-ends_inside.true refl

pub returns-else-ends_inside : goal.returns-else-ends_inside
returns-else-ends_inside c = or_second _ _ _ c.ends_inside.ensures c.ends_inside-else-ends_inside.ensures c.if-ends_inside.false refl
