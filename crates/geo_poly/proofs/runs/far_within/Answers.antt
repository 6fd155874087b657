use Rattle.std.proofs.Common.{ℤ, not, ap}
use Rattle.geo_seg.specs.Boxes.{AreClear}
use Rattle.geo_seg.specs.Inside.{path, SomeEdge}
use Rattle.geo_seg.proofs.Passed.{at_d, at_more}
use Rattle.geo_seg.proofs.Choices.{surely_not}
use Rattle.geo_poly.specs.OutlineEdges.{IsReached}
use Rattle.geo_poly.proofs.Covers.{none_clear}
use Rattle.geo_poly.proofs.RunLemmas.{run_covers}
use Rattle.geo_poly.proofs.runs.far_within.Goals as goal

pub returns-then-not-is_clear : goal.returns-then-not-is_clear
returns-then-not-is_clear c = at_d (λ (z : ℤ). SomeEdge (λ e. IsReached e c.args.s z) (path c.args.from c.args.part.now)) c.args.d _ c.requires.range.from c.requires.range.to c.path_within.ensures

pub returns-else-not-is_clear : goal.returns-else-not-is_clear
returns-else-not-is_clear c =
    let b = c.args.far in let k = c.bounds.result in let es = path c.args.from c.args.part.now in
    let e = at_more (λ (z : ℤ). AreClear b k z) c.args.d _ c.requires.range.from c.requires.range.to c.is_clear.ensures in
    surely_not _ (ap not c.if-not-is_clear.false)
    (none_clear b k c.args.s c.args.d c.requires.range.from c.bounds.ensures.least.holds (e.0 c.if-not-is_clear.false) es (run_covers b es c.requires.far))
