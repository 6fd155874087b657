use Rattle.std.proofs.Common.{◌≤◌, List, length, subst, sym, arith}
use Rattle.geo_seg.specs.declared.points.Point.{Point}
use Rattle.geo_seg.specs.Inside.{outline}
use Rattle.geo_seg.proofs.Passed.{passed}
use Rattle.geo_poly.specs.EdgeRuns.{LiesClear}
use Rattle.geo_poly.proofs.RunLemmas.{each_on}
use Rattle.geo_poly.proofs.walks.clear_end.Goals as goal

pub runs-preserved : goal.runs-preserved
runs-preserved c =
    let low = c.args.low in let at = c.runs.at in let next = c.clear_run-next.result in
    let so_far = c.runs.invariant in let run = c.clear_run-next.ensures in
    let up : low ≤ next = omega (arith, so_far.0, run.after) in (
      up,
      subst (λ (z : List Point). next ≤ length z) (sym c.corners-all.ensures.same) run.within,
      each_on (LiesClear c.args.near (passed c.args.d)) low at next (outline c.args.poly.now) so_far.0 run.after so_far.2 run.clear,
    )
