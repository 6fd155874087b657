use Rattle.std.proofs.Common.{ℤ, not, ap}
use Rattle.geo_seg.specs.Points.{IsOn}
use Rattle.geo_seg.specs.Boxes.{AreClear}
use Rattle.geo_seg.proofs.BoxLemmas.{clear_not_within}
use Rattle.geo_seg.proofs.Passed.{at_d, at_more}
use Rattle.geo_seg.proofs.Choices.{surely_not}
use Rattle.geo_poly.specs.OutlineEdges.{IsReached}
use Rattle.geo_poly.proofs.edges.edge_within.Goals as goal

pub returns-then-not-is_clear : goal.returns-then-not-is_clear
returns-then-not-is_clear c = at_d (λ (z : ℤ). IsReached c.args.e c.args.s z) c.args.d _ c.requires.range.from c.requires.range.to c.seg_within.ensures

pub returns-else-not-is_clear : goal.returns-else-not-is_clear
returns-else-not-is_clear c =
    let b = c.bounds.result in let k = c.args.near in
    let e = at_more (λ (z : ℤ). AreClear b k z) c.args.d _ c.requires.range.from c.requires.range.to c.is_clear.ensures in
    let n = clear_not_within (IsOn c.args.e) (IsOn c.args.s) b k c.args.d c.requires.range.from c.bounds.ensures.least c.requires.near (e.0 c.if-not-is_clear.false) in
    surely_not _ (ap not c.if-not-is_clear.false) n
