use Rattle.std.proofs.Common.{List, take, drop, subst, sym}
use Rattle.geo_seg.specs.declared.points.Point.{Point}
use Rattle.geo_seg.specs.declared.points.Seg.{Seg}
use Rattle.geo_seg.specs.Inside.{outline}
use Rattle.geo_seg.specs.RunBoxes.{IsRunBox}
use Rattle.geo_poly.proofs.RunLemmas.{outline_length}
use Rattle.geo_poly.proofs.parity.told.Goals as goal

pub told_by-requires-clause-hull : goal.told_by-requires-clause-hull
told_by-requires-clause-hull c =
    let b = c.in_ok-b.b in let cs = c.corners-corners.result.now in
    subst (λ (es : List Seg). IsRunBox es b) (c.end-high.ensures.run (outline cs) (outline_length cs))
    (subst (λ (z : List Point). IsRunBox (take c.args.size (drop c.args.low (outline z))) b) (sym c.corners-corners.ensures.same) c.in_ok-b.ensures)
