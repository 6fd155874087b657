use Rattle.net_groups.proofs.Asked.{no_bounds}
use Rattle.net_groups.proofs.ItemBoxRuns.{passed_none, passed_item_box, passed_run}
use Rattle.net_groups.proofs.runs.next_met.Goals as goal

pub places-init : goal.places-init
places-init c = passed_none c.args.item_boxes.now c.args.own c.args.from c.args.from

pub places-preserved-then-begins_clear : goal.places-preserved-then-begins_clear
places-preserved-then-begins_clear c =
    let run = c.begins_clear.ensures c.if-begins_clear.true in
    passed_run c.args.item_boxes.now c.args.own c.args.from c.places.place c.places.invariant c.args.runs.now c.requires run.0 run.1 run.2 run.3

pub places-preserved : goal.places-preserved
places-preserved c = passed_item_box c.args.item_boxes.now c.args.own c.args.from c.places.place c.places.invariant no_bounds c.places-test.true (c.is_far.ensures c.if-is_far.true)
