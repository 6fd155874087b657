use Rattle.std.proofs.Common.{◌∙◌, arith}
use Rattle.ratsnest.specs.NestOf.{IsLink}
use Rattle.ratsnest.proofs.checking.by_chains.Goals as goal

pub put_in_order-requires : goal.put_in_order-requires
put_in_order-requires c = record {
  fits = λ l m.
      let k : IsLink c.args.anchors.now l = c.in_ok-links.ensures.sound l m in
      (omega (arith, k.in_order, k.within, c.requires.few), omega (arith, k.in_order, k.within, c.requires.few));
}

pub join-requires-clause-links : goal.join-requires-clause-links
join-requires-clause-links c =
    rw c.deref.ensures.value (record {
      climbs = c.in_ok-put_in_order.ensures.climbs;
      sound = λ l m. c.in_ok-links.ensures.sound l (c.in_ok-put_in_order.ensures.sound l m);
      whole = λ l k. c.in_ok-put_in_order.ensures.whole l (c.in_ok-links.ensures.whole l k);
    })

pub join-requires-clause-labels : goal.join-requires-clause-labels
join-requires-clause-labels c =
    rw c.deref_mut.ensures.value (record {
      count = c.in_ok-labels.ensures.count ∙ c.count_groups.ensures;
      own = c.in_ok-labels.ensures.own;
    })
