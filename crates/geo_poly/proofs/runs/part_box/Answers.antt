use Rattle.std.proofs.Common.{◌-◌, List, take, drop, subst, sym}
use Rattle.geo_seg.specs.declared.points.Seg.{Seg}
use Rattle.geo_seg.specs.Inside.{outline}
use Rattle.geo_seg.specs.RunBoxes.{IsRunBox}
use Rattle.geo_seg.proofs.RunBoxes.{run_box}
use Rattle.geo_poly.proofs.RunLemmas.{piece, shorter_run}
use Rattle.geo_poly.proofs.runs.part_box.Goals as goal

pub returns-in-Some : goal.returns-in-Some
returns-in-Some c = shorter_run (c.args.high - c.args.low) c.args.size (drop c.args.low (outline c.args.poly.now)) c.in-Some.bounds c.if-high-low.true c.in-Some.ensures

pub returns : goal.returns
returns c =
    let cs = c.corners-corners.result.now in let low = c.args.low in let high = c.args.high in let a = c.before-2.result in let b = c.corner_box.result in
    subst (λ (es : List Seg). IsRunBox es b) (sym (piece a cs c.args.poly.now low high c.corners-corners.ensures.same c.before-2.ensures))
    (run_box a (take (high - low) (drop low cs)) b c.corner_box.ensures)
