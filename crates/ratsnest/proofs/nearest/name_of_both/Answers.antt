use Rattle.std.proofs.Common.{◌≡◌, ◌∙◌, sym, ap, refl, Some, None, slice_index_or}
use Rattle.ratsnest.proofs.Near.{named_of_both}
use Rattle.ratsnest.proofs.nearest.name_of_both.Goals as goal

pub returns-then-is_of-2 : goal.returns-then-is_of-2
returns-then-is_of-2 c =
    let nl : slice_index_or c.args.names.now c.args.left None ≡ Some c.in_ok-name.name = sym c.name_at.ensures ∙ c.in_ok-name.was in
    let nr : slice_index_or c.args.names.now c.args.right None ≡ Some c.in_ok-name.name = sym c.name_at-2.ensures ∙ c.in_ok-other.was ∙ ap Some c.if-other-name.true in
    named_of_both c.args.tree.now.indexed_anchors.items c.args.labels.now c.args.tree.now.nodes.items c.args.names.now c.requires c.args.node c.args.left c.args.right c.in_ok-name.name
    c.in_ok-whole.whole.now c.in_ok-a.a.now c.in_ok-b.b.now c.in_ok-a.ensures.0 c.in_ok-b.ensures.0 c.in_ok-whole.ensures.1 c.in_ok-a.ensures.1 c.in_ok-b.ensures.1
    nl nr (c.if-is_of.ensures refl).0 (c.if-is_of.ensures refl).1 (c.if-is_of-2.ensures refl).1
