use Rattle.std.proofs.Common.{rules, ◌≡◌, length}
use Rattle.ratsnest.proofs.Grown.{grown_end}
use Rattle.ratsnest.proofs.growing.grow_on.Goals as goal

pub returns : goal.returns
returns c =
    let none : length c.grow.waiting.items ≡ 0 = search rules in
    grown_end c.args.anchors.now c.requires.occur c.grow.reached c.grow.waiting.items c.grow.links.items c.grow.invariant none
