use Rattle.std.proofs.Common.{refl}
use Rattle.pair_check.specs.PlainRow.{PlainRow}
use Rattle.pair_check.specs.Rows.{Before}
use Rattle.what_if.proofs.Missing.{before_more, same_at}
use Rattle.what_if.proofs.difference.past.Goals as goal

pub loop-at-preserved : goal.loop-at-preserved
loop-at-preserved c =
    before_more c.args.others.now c.args.row.now c.args.from c.loop-at.at c.loop-at.invariant
    (same_at c.args.others.now c.loop-at.at c.index-others-at.result (λ (r : PlainRow). Before r c.args.row.now) c.loop-at-test.true c.index-others-at.is (c.if-not-comes_before.ensures.0 refl))
