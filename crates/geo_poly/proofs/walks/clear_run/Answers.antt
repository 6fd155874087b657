use Rattle.geo_seg.specs.declared.runs.TheConstants.{FIRST_RUN, SECOND_RUN, THIRD_RUN, FOURTH_RUN}
use Rattle.geo_poly.proofs.RunLemmas.{run_clear}
use Rattle.geo_poly.proofs.walks.clear_run.Goals as goal

pub returns-then-is_run_clear-clause-clear : goal.returns-then-is_run_clear-clause-clear
returns-then-is_run_clear-clause-clear c =
    run_clear c.args.near c.args.d c.corners-all.result.now c.args.poly.now c.args.low FOURTH_RUN c.end.result c.corners-all.ensures.same c.end.ensures.run c.requires.range.from c.requires.range.to
    (c.is_run_clear.ensures c.if-is_run_clear.true)

pub returns-then-is_run_clear-2-clause-clear : goal.returns-then-is_run_clear-2-clause-clear
returns-then-is_run_clear-2-clause-clear c =
    run_clear c.args.near c.args.d c.corners-all.result.now c.args.poly.now c.args.low THIRD_RUN c.end-then-is_run_clear-2.result c.corners-all.ensures.same c.end-then-is_run_clear-2.ensures.run c.requires.range.from c.requires.range.to
    (c.is_run_clear-else-is_run_clear.ensures c.if-is_run_clear-2.true)

pub returns-then-is_run_clear-3-clause-clear : goal.returns-then-is_run_clear-3-clause-clear
returns-then-is_run_clear-3-clause-clear c =
    run_clear c.args.near c.args.d c.corners-all.result.now c.args.poly.now c.args.low SECOND_RUN c.end-then-is_run_clear-3.result c.corners-all.ensures.same c.end-then-is_run_clear-3.ensures.run c.requires.range.from c.requires.range.to
    (c.is_run_clear-else-is_run_clear-2.ensures c.if-is_run_clear-3.true)

pub returns-then-is_run_clear-4-clause-clear : goal.returns-then-is_run_clear-4-clause-clear
returns-then-is_run_clear-4-clause-clear c =
    run_clear c.args.near c.args.d c.corners-all.result.now c.args.poly.now c.args.low FIRST_RUN c.end-then-is_run_clear-4.result c.corners-all.ensures.same c.end-then-is_run_clear-4.ensures.run c.requires.range.from c.requires.range.to
    (c.is_run_clear-else-is_run_clear-3.ensures c.if-is_run_clear-4.true)
