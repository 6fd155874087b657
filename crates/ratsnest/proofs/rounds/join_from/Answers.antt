use Rattle.std.proofs.Common.{arith}
use Rattle.ratsnest.specs.NestOf.{IsLink}
use Rattle.ratsnest.proofs.Forest.{forest_chosen}
use Rattle.ratsnest.proofs.rounds.join_from.Goals as goal

pub put_in_order-requires : goal.put_in_order-requires
put_in_order-requires c = record {
  fits = λ l m.
      let k : IsLink c.args.anchors.now l = (c.in_ok-take_rounds.ensures.forest.nest l (c.in_ok-take_rounds.ensures.forest.there l m)).link in
      (omega (arith, k.in_order, k.within, c.requires.few), omega (arith, k.within, c.requires.few));
}

pub returns : goal.returns
returns c =
    forest_chosen c.args.anchors.now c.take_rounds.new.labels c.take_rounds.new.links.items c.in_ok-take_rounds.ensures.forest c.in_ok-take_rounds.ensures.one c.requires.some
    c.put_in_order.new.links.items c.in_ok-put_in_order.ensures.climbs c.in_ok-put_in_order.ensures.sound c.in_ok-put_in_order.ensures.whole
