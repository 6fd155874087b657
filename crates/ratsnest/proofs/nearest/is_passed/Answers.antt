use Rattle.std.proofs.Common.{refl}
use Rattle.ratsnest.proofs.Near.{passed_named, passed_far}
use Rattle.ratsnest.proofs.nearest.is_passed.Goals as goal

pub returns-then-is_named : goal.returns-then-is_named
returns-then-is_named c = λ yes.
    passed_named c.args.tree.now.indexed_anchors.items c.args.labels.now c.args.tree.now.nodes.items c.args.names.now c.requires.names c.args.from.now c.args.part.node c.args.own
    c.args.part.low c.args.part.high c.in-Some.node.now c.args.best c.in-Some.ensures.0 c.in-Some.ensures.1 (c.if-is_of.ensures refl).0 (c.if-is_of.ensures refl).1 (c.is_named.ensures yes)

pub returns-else-is_named : goal.returns-else-is_named
returns-else-is_named c = λ yes.
    passed_far c.args.tree.now.indexed_anchors.items c.args.labels.now c.args.tree.now.nodes.items c.requires.nodes c.args.from.now c.args.part.node c.args.own
    c.args.part.low c.args.part.high c.square_from.result c.in-Some.node.now c.args.best c.in-Some.ensures.0 c.in-Some.ensures.1 (c.if-is_of.ensures refl).0 (c.if-is_of.ensures refl).1
    c.square_from.ensures (c.is_below.ensures yes)
