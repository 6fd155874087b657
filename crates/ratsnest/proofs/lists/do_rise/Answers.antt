use Rattle.std.proofs.Common.{◌≡◌, true, arith, rules}
use Rattle.ratsnest.proofs.Rising.{rise_next}
use Rattle.ratsnest.proofs.lists.do_rise.Goals as goal

pub loop-place-preserved : goal.loop-place-preserved
loop-place-preserved c =
    let yes : c.stand_in_order.result ≡ true = search rules in
    rise_next c.args.anchors.now c.loop-place.place (omega arith) c.loop-place.invariant (c.stand_in_order.ensures.0 yes)
