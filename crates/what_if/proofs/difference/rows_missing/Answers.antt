use Rattle.what_if.proofs.Missing.{all_before, later_before, rows_more}
use Rattle.what_if.proofs.difference.rows_missing.Goals as goal

pub push_missing-requires-clause-before : goal.push_missing-requires-clause-before
push_missing-requires-clause-before c =
    let loop = c.loop-row in
    all_before c.args.others.now c.args.rows.now loop.row-index loop.at c.past-at.result c.row-item.result c.loop-row-test.true c.row-item.is c.requires.rows loop.invariant.before c.past-at.ensures.before

pub loop-row-preserved : goal.loop-row-preserved
loop-row-preserved c =
    let loop = c.loop-row in
    let others = c.args.others.now in
    let rows = c.args.rows.now in
    let row = c.row-item.result in
    record {
      made = rows_more others rows loop.row-index row loop.only.items c.push_missing.new.only.items c.loop-row-test.true c.row-item.is loop.invariant.made c.in_ok-push_missing.ensures;
      within = c.past-at.ensures.range.1;
      before = later_before others rows loop.row-index loop.at c.past-at.result row c.loop-row-test.true c.row-item.is c.requires.rows loop.invariant.before c.past-at.ensures.before;
    }
