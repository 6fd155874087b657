use Rattle.std.proofs.Common.{◌≤◌, ◌<◌, ◌-◌, ◌++◌, ◌∷◌, List, length, take, drop, subst, sym, inl, inr, arith}
use Rattle.geo_seg.specs.declared.frames.Frame.{Frame}
use Rattle.geo_seg.specs.declared.boxes.Bounds.{Bounds}
use Rattle.geo_seg.specs.PolygonCorners.{IsCornerBox}
use Rattle.geo_seg.specs.Inside.{outline}
use Rattle.geo_seg.specs.RunBoxes.{AreRuns}
use Rattle.geo_seg.proofs.CornerBoxes.{box_fits}
use Rattle.geo_seg.proofs.RunBoxes.{outline_is, rest_is, EndsAt, IsRowTo, row_grows, row_done}
use Rattle.geo_seg.proofs.runs.row.Goals as goal
use Rattle.geo_seg.proofs.runs.row.Goals.{then-corners-low, else-corners-low}

pub runs-init : goal.runs-init
runs-init c =
    let cs = c.args.corners.now in (
      omega arith,
      outline_is cs c.index-corners-corners.result c.requires.some c.index-corners-corners.is,
      λ fs r. subst (λ (z : List Frame). AreRuns c.args.size (z ++ fs) (outline cs)) (sym c.in_ok-frames.ensures.items) r,
    )

pub of-requires : goal.of-requires
of-requires c = box_fits _ c.corner_box.result c.corner_box.ensures

pub runs-preserved : goal.runs-preserved
runs-preserved c =
    let cs = c.args.corners.now in let low = c.runs.low in let high = c.if-corners-low.high in let a = c.runs.from in
    let h : (low < high) × (high ≤ length cs) × EndsAt c.args.size (length cs) low high = elim c.if-corners-low.branch [ then-corners-low w ↦ (omega arith, omega arith, inl (omega arith)) | else-corners-low w ↦ (omega arith, omega arith, inr (omega arith, omega arith)) ] in (
      h.1,
      rest_is a c.index-part-part.result cs (outline cs) low high h.0 h.1 c.runs.invariant.1 c.index-part-part.is,
      subst (λ (z : List Frame). IsRowTo c.args.size z (outline cs) high) (sym c.in_ok-push.ensures.items)
          (row_grows c.args.size a cs (outline cs) low high c.runs.frames.items c.of.result h.0 h.1 h.2 c.runs.invariant.1
          (subst (λ (z : Bounds). IsCornerBox (a ∷ take (high - low) (drop low cs)) z) (sym c.of.ensures) c.corner_box.ensures) c.runs.invariant.2),
    )

pub returns : goal.returns
returns c = row_done c.args.size c.runs.frames.items (outline c.args.corners.now) c.runs.low c.runs.invariant.2
