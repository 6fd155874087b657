use Rattle.std.proofs.Common.{◌+◌, ◌∙◌, ap, arith}
use Rattle.std.proofs.lemmas.List.{length_push}
use Rattle.net_groups.proofs.ItemBoxRuns.{runs_more}
use Rattle.net_groups.proofs.runs.runs_of.Goals as goal

pub loop-run-preserved : goal.loop-run-preserved
loop-run-preserved c =
    let runs = c.loop-run.runs.items in
    let many = c.loop-run.invariant.many in
    rw c.in_ok-push.ensures.items (record {
      many = length_push runs c.run_of.result ∙ ap (λ n. n + 1) many;
      each = runs_more c.args.item_boxes.now runs c.run_of.result c.loop-run.invariant.each (λ i d lo hi l. c.run_of.ensures i d (omega (arith, lo, many)) (omega (arith, hi, many)) l);
    })
