use Rattle.std.proofs.Common.{ℤ, not, ap}
use Rattle.geo_seg.specs.Nearer.{AreWithin}
use Rattle.geo_seg.specs.Inside.{IsInside}
use Rattle.geo_seg.specs.Boxes.{AreClear}
use Rattle.geo_seg.proofs.BoxLemmas.{clear_not_within}
use Rattle.geo_seg.proofs.Passed.{at_d, at_more}
use Rattle.geo_seg.proofs.Choices.{surely_not}
use Rattle.geo_poly.proofs.polygons.poly_within.Goals as goal

pub returns-then-not-is_clear : goal.returns-then-not-is_clear
returns-then-not-is_clear c = at_d (λ (z : ℤ). AreWithin (IsInside c.args.a.now) (IsInside c.args.b.now) z) c.args.d _ c.requires.from c.requires.to c.areas_within.ensures

pub returns-else-not-is_clear : goal.returns-else-not-is_clear
returns-else-not-is_clear c =
    let b = c.bounds.result in let k = c.bounds-2.result in
    let e = at_more (λ (z : ℤ). AreClear b k z) c.args.d _ c.requires.from c.requires.to c.is_clear.ensures in
    surely_not _ (ap not c.if-not-is_clear.false) (clear_not_within (IsInside c.args.a.now) (IsInside c.args.b.now) b k c.args.d c.requires.from c.bounds.ensures.least c.bounds-2.ensures.least (e.0 c.if-not-is_clear.false))
