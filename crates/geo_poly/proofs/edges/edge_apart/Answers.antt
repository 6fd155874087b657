use Rattle.std.proofs.Common.{ℤ}
use Rattle.geo_seg.specs.Points.{IsOn}
use Rattle.geo_seg.specs.Boxes.{AreClear}
use Rattle.geo_seg.proofs.BoxLemmas.{clear_apart}
use Rattle.geo_seg.proofs.Passed.{at_d}
use Rattle.geo_seg.proofs.Choices.{surely}
use Rattle.geo_poly.specs.OutlineEdges.{IsApart}
use Rattle.geo_poly.proofs.edges.edge_apart.Goals as goal

pub returns-then-is_clear : goal.returns-then-is_clear
returns-then-is_clear c =
    let b = c.bounds.result in let k = c.args.near in
    let e = at_d (λ (z : ℤ). AreClear b k z) c.args.d _ c.requires.range.from c.requires.range.to c.is_clear.ensures in
    surely _ c.if-is_clear.true (clear_apart (IsOn c.args.e) (IsOn c.args.s) b k c.args.d c.requires.range.from c.bounds.ensures.least c.requires.near (e.0 c.if-is_clear.true))

pub returns-else-is_clear : goal.returns-else-is_clear
returns-else-is_clear c = at_d (λ (z : ℤ). IsApart c.args.e c.args.s z) c.args.d _ c.requires.range.from c.requires.range.to c.seg_apart.ensures
