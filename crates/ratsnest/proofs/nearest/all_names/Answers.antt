use Rattle.std.proofs.Common.{◌∙◌, ◌-◌, arith}
use Rattle.std.proofs.lemmas.List.{length-set}
use Rattle.ratsnest.proofs.Near.{names_set, named_some}
use Rattle.ratsnest.proofs.nearest.all_names.Goals as goal

pub loop-node-preserved : goal.loop-node-preserved
loop-node-preserved c = record {
  len = length-set c.loop-node.names.items (c.loop-node.node - 1) c.name_of-name.result ∙ c.loop-node.invariant.len;
  are = names_set c.args.tree.now.indexed_anchors.items c.args.labels.now c.args.tree.now.nodes.items c.loop-node.names.items c.loop-node.invariant.are (c.loop-node.node - 1) c.name_of-name.result
      (omega (arith, c.loop-node.invariant.len))
      (named_some c.args.tree.now.indexed_anchors.items c.args.labels.now c.args.tree.now.nodes.items (c.loop-node.node - 1) c.name_of-name.result c.name_of-name.ensures);
}
