use Rattle.std.proofs.Common.{ℤ, ◌⊎◌}
use Rattle.geo_seg.specs.Points.{rational_point_of}
use Rattle.geo_seg.specs.Inside.{SomeEdge, outline}
use Rattle.geo_seg.proofs.Choices.{through}
use Rattle.geo_seg.proofs.Passed.{at_d}
use Rattle.geo_poly.specs.OutlineEdges.{IsReached, IsEnclosed}
use Rattle.geo_poly.proofs.Answers.{seg_within_code}
use Rattle.geo_poly.proofs.polygons.edges_within.Goals as goal

pub returns : goal.returns
returns c =
    let cs = c.args.poly.now in let s = c.args.s in let d = c.args.d in
    through _ (at_d (λ (z : ℤ). IsEnclosed cs (rational_point_of s.a) ⊎ SomeEdge (λ e. IsReached e s z) (outline cs)) d _ c.requires.from c.requires.to c.is_reached.ensures)
    (seg_within_code d cs s)
