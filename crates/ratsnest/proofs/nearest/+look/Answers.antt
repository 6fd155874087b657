use Rattle.ratsnest.proofs.Near.{looked_both}
use Rattle.ratsnest.proofs.nearest.+look.Goals as goal

pub returns : goal.returns
returns t c =
    looked_both c.args.tree.now.indexed_anchors.items c.args.labels.now c.args.from.now c.args.own c.args.part c.nearer_first-halves.result.left c.nearer_first-halves.result.right
    c.nearer_first-halves.ensures c.args.best.now c.look.new.best c.look-2.new.best c.look.ensures c.look-2.ensures
