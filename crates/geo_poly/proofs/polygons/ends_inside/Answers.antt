use Rattle.std.proofs.Common.{◌↔◌, IsTrue, List, subst, arith}
use Rattle.geo_seg.specs.declared.points.Point.{Point}
use Rattle.geo_poly.specs.OutlineEdges.{EndsInside}
use Rattle.geo_poly.proofs.Answers.{ends_inside_is}
use Rattle.geo_poly.proofs.polygons.ends_inside.Goals as goal

pub returns : goal.returns
returns c =
    let cs = c.corners-corners.result.now in let ks = c.args.b.now in
    subst (λ (z : List Point). IsTrue c.is_enclosed.result ↔ EndsInside z ks) c.corners-corners.ensures.same
    (ends_inside_is cs ks c.index-corners-corners.result c.is_enclosed.result (omega (arith, c.corners-corners.ensures.enough)) c.index-corners-corners.is c.is_enclosed.ensures)
