use Rattle.std.proofs.Common.{◌≡◌, ap, length, false, arith}
use Rattle.std.proofs.lemmas.List.{length-replicate}
use Rattle.ratsnest.specs.NestOf.{group_at, group_count}
use Rattle.ratsnest.specs.Grow.{IsReach}
use Rattle.ratsnest.proofs.Grown.{group_below, grown_start}
use Rattle.ratsnest.proofs.growing.start.Goals as goal

pub bounds-reached-group : goal.bounds-reached-group
bounds-reached-group c =
    omega (
      arith,
      group_below c.args.anchors.now 0 c.requires.some,
      c.group_of-group.ensures,
      ap length c.requires.reached,
      length-replicate (group_count c.args.anchors.now) false,
    )

pub returns : goal.returns
returns c =
    let e : c.group_of-group.result ≡ group_at c.args.anchors.now 0 = c.group_of-group.ensures in
    let r : IsReach (group_at c.args.anchors.now 0) c.args.waiting.now.items c.reach.new.waiting.items = rw e at c.in_ok-reach.ensures in
    rw (e, c.requires.reached) (grown_start c.args.anchors.now c.requires.some
    (group_below c.args.anchors.now 0 c.requires.some) c.args.waiting.now.items c.reach.new.waiting.items c.requires.first r)
