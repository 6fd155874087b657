use Rattle.std.proofs.Common.{◌≡◌, ◌∙◌, List, sym, ap, subst}
use Rattle.geo_seg.specs.declared.points.Point.{Point}
use Rattle.geo_seg.specs.Boxes.{IsLeastBox}
use Rattle.geo_seg.specs.Inside.{IsInside}
use Rattle.geo_seg.specs.PolygonCaches.{corners_of}
use Rattle.geo_seg.proofs.Enclosed.{poly_box}
use Rattle.geo_seg.proofs.polygon.Poly.bounds.Goals as goal

pub returns-in-Plain-clause-least : goal.returns-in-Plain-clause-least
returns-in-Plain-clause-least c =
    let same : c.deref.result.now ≡ c.args.self.now = c.deref.ensures.value ∙ ap corners_of (sym c.in-Plain.is) ∙ c.self.view_is in
    subst (λ (cs : List Point). IsLeastBox (IsInside cs) c.box_of.result) same (poly_box c.deref.result.now c.box_of.result c.box_of.ensures.corners)

pub returns-in-Runs-clause-least : goal.returns-in-Runs-clause-least
returns-in-Runs-clause-least c =
    let same : c.deref-in-Runs.result.now.corners.items ≡ c.args.self.now = ap (λ index. index.corners.items) c.deref-in-Runs.ensures ∙ ap corners_of (sym c.in-Runs.is) ∙ c.self.view_is in
    subst (λ (cs : List Point). IsLeastBox (IsInside cs) c.bounds.result) same (poly_box _ c.bounds.result c.bounds.ensures.corners)
