use Rattle.std.proofs.Common.{ℤ}
use Rattle.geo_seg.specs.Points.{IsOn}
use Rattle.geo_seg.specs.Nearer.{AreApart}
use Rattle.geo_seg.specs.Inside.{IsInside}
use Rattle.geo_seg.specs.Boxes.{AreClear}
use Rattle.geo_seg.proofs.BoxLemmas.{clear_apart}
use Rattle.geo_seg.proofs.Passed.{at_d}
use Rattle.geo_seg.proofs.Choices.{surely}
use Rattle.geo_poly.proofs.polygons.poly_seg_apart.Goals as goal

pub returns-then-is_clear : goal.returns-then-is_clear
returns-then-is_clear c =
    let b = c.bounds.result in let k = c.bounds-2.result in
    let e = at_d (λ (z : ℤ). AreClear b k z) c.args.d _ c.requires.from c.requires.to c.is_clear.ensures in
    surely _ c.if-is_clear.true (clear_apart (IsInside c.args.poly.now) (IsOn c.args.s) b k c.args.d c.requires.from c.bounds.ensures.least c.bounds-2.ensures.least (e.0 c.if-is_clear.true))

pub returns-else-is_clear : goal.returns-else-is_clear
returns-else-is_clear c = at_d (λ (z : ℤ). AreApart (IsInside c.args.poly.now) (IsOn c.args.s) z) c.args.d _ c.requires.from c.requires.to c.edges_apart.ensures
