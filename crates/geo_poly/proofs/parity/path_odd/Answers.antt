use Rattle.std.proofs.Common.{ap, ◌∙◌}
use Rattle.geo_seg.specs.Points.{rational_point_of}
use Rattle.geo_seg.specs.Inside.{path}
use Rattle.geo_seg.proofs.Parity.{differ, is_odd}
use Rattle.geo_poly.proofs.Sides.{differ_false}
use Rattle.geo_poly.proofs.Outline.{path_end}
use Rattle.geo_poly.proofs.RunLemmas.{odd_by}
use Rattle.geo_poly.proofs.parity.path_odd.Goals as goal

pub returns : goal.returns
returns c =
    let cs = c.args.part.now in let p = rational_point_of c.args.p in let odd = c.loop-c.odd in
    odd_by p (path c.args.from cs) odd (c.loop-c.invariant ∙ ap (λ es. differ odd (is_odd p es)) (path_end c.loop-c.at cs c.loop-c.c-index c.loop-c-test.false) ∙ differ_false odd)
