use Rattle.std.proofs.Common.{pos, not, ap}
use Rattle.geo_seg.specs.Points.{IsAt}
use Rattle.geo_seg.specs.Inside.{IsInside}
use Rattle.geo_seg.proofs.BoxLemmas.{clear_not_within}
use Rattle.geo_seg.proofs.Choices.{surely_not}
use Rattle.geo_poly.proofs.Answers.{within_of_inside}
use Rattle.geo_poly.proofs.polygons.holds.Goals as goal

pub returns-then-not-is_clear : goal.returns-then-not-is_clear
returns-then-not-is_clear c = c.has_point.ensures

pub returns-else-not-is_clear : goal.returns-else-not-is_clear
returns-else-not-is_clear c =
    let cs = c.args.poly.now in let p = c.args.p in
    surely_not _ (ap not c.if-not-is_clear.false)
    (λ h. clear_not_within (IsAt p) (IsInside cs) c.bounds.result c.bounds-2.result (pos 0) (record { le = tt }) c.bounds.ensures.least c.bounds-2.ensures.least (c.is_clear.ensures.0 c.if-not-is_clear.false) (within_of_inside cs p h))
