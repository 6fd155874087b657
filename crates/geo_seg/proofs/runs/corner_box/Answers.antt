use Rattle.std.proofs.Common.{[], ◌∷◌, ◌++◌, List, take, sym, subst}
use Rattle.std.proofs.lemmas.List.{take_more, take_all}
use Rattle.geo_seg.specs.declared.points.Point.{Point}
use Rattle.geo_seg.specs.PolygonCorners.{IsCornerBox}
use Rattle.geo_seg.proofs.CornerBoxes.{box_fits}
use Rattle.geo_seg.proofs.runs.corner_box.Goals as goal

pub loop-corner-init : goal.loop-corner-init
loop-corner-init c = c.around-bounds.ensures

pub loop-corner-preserved : goal.loop-corner-preserved
loop-corner-preserved c =
    let x = c.args.first in let cs = c.args.others.now in let i = c.loop-corner.corner-index in let b = c.grown-bounds.result in
    let e = take_more cs i c.corner-item.result c.loop-corner-test.true in
    subst (λ (ks : List Point). IsCornerBox (x ∷ ks) b) (sym e)
    (subst (λ (k : Point). IsCornerBox (x ∷ (take i cs ++ k ∷ [])) b) c.corner-item.is (c.grown-bounds.ensures (x ∷ take i cs) c.loop-corner.invariant))

pub returns : goal.returns
returns c = subst (λ (ks : List Point). IsCornerBox (c.args.first ∷ ks) c.loop-corner.bounds) (take_all c.loop-corner.corner-index c.args.others.now c.loop-corner-test.false) c.loop-corner.invariant

pub grown-bounds-requires : goal.grown-bounds-requires
grown-bounds-requires c = box_fits (c.args.first ∷ take c.loop-corner.corner-index c.args.others.now) c.loop-corner.bounds c.loop-corner.invariant
