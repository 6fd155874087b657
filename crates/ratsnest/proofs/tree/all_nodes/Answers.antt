use Rattle.std.proofs.Common.{◌≡◌, ◌∷◌, ◌++◌, []}
use Rattle.std.proofs.lemmas.List.Elements.{All-push}
use Rattle.ratsnest.specs.Forest.{IsNode}
use Rattle.ratsnest.proofs.tree.all_nodes.Goals as goal

pub loop-node-preserved : goal.loop-node-preserved
loop-node-preserved c =
    let grown : c.push-in-loop-node.new.self.items ≡ c.loop-node.nodes.items ++ c.next_node-next.result ∷ [] = c.in_ok-push-2.ensures.items in
    rw grown (All-push (IsNode c.args.indexed_anchors.now) c.loop-node.nodes.items c.next_node-next.result c.loop-node.invariant c.next_node-next.ensures)
