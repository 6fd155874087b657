use Rattle.std.proofs.Common.{ℤ}
use Rattle.geo_seg.specs.Boxes.{AreClear}
use Rattle.geo_seg.specs.Inside.{path, EachEdge}
use Rattle.geo_seg.proofs.Passed.{at_d}
use Rattle.geo_seg.proofs.Choices.{surely}
use Rattle.geo_poly.specs.OutlineEdges.{IsApart}
use Rattle.geo_poly.proofs.Covers.{each_clear}
use Rattle.geo_poly.proofs.RunLemmas.{run_covers}
use Rattle.geo_poly.proofs.runs.far_apart.Goals as goal

pub returns-then-is_clear : goal.returns-then-is_clear
returns-then-is_clear c =
    let b = c.args.far in let k = c.bounds.result in let es = path c.args.from c.args.part.now in
    let e = at_d (λ (z : ℤ). AreClear b k z) c.args.d _ c.requires.range.from c.requires.range.to c.is_clear.ensures in
    surely _ c.if-is_clear.true (each_clear b k c.args.s c.args.d c.requires.range.from c.bounds.ensures.least.holds (e.0 c.if-is_clear.true) es (run_covers b es c.requires.far))

pub returns-else-is_clear : goal.returns-else-is_clear
returns-else-is_clear c = at_d (λ (z : ℤ). EachEdge (λ e. IsApart e c.args.s z) (path c.args.from c.args.part.now)) c.args.d _ c.requires.range.from c.requires.range.to c.path_apart.ensures
