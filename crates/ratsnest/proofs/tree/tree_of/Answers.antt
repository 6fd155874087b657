use Rattle.std.proofs.Common.{◌∙◌, IsPermutation, List, subst}
use Rattle.std.proofs.lemmas.List.{with_items_is}
use Rattle.ratsnest.specs.declared.indexed_anchor.IndexedAnchor.{IndexedAnchor}
use Rattle.ratsnest.proofs.Cut.{indexed_anchors_moved}
use Rattle.ratsnest.proofs.tree.tree_of.Goals as goal

pub returns-clause-indexed_anchors : goal.returns-clause-indexed_anchors
returns-clause-indexed_anchors c =
    let same = with_items_is c.in_ok-indexed_anchors.indexed_anchors c.put_together.new.indexed_anchors (c.put_together.auto.indexed_anchors ∙ c.deref_mut.ensures.len) in
    rw same (indexed_anchors_moved c.args.anchors.now c.in_ok-indexed_anchors.indexed_anchors.items c.put_together.new.indexed_anchors c.in_ok-indexed_anchors.ensures.len c.in_ok-indexed_anchors.ensures.each
    (subst (λ (z : List IndexedAnchor). IsPermutation z c.put_together.new.indexed_anchors) c.deref_mut.ensures.value c.put_together.ensures))
