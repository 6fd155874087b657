use Rattle.ratsnest.proofs.tree.count_nodes.Given as goal

abbrev pub decreases-loop-left : goal.decreases-loop-left
decreases-loop-left l = l.left
