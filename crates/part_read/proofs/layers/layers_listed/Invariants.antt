use Rattle.std.proofs.Common.{◌≡◌}
use Rattle.sexpr_read.specs.Tree.{parts}
use Rattle.sexpr_read.specs.TreeViews.{tree_of, trees_left}
use Rattle.part_read.specs.BoardLayers.{listed}
use Rattle.part_read.proofs.Layering.{no_layers, gathered, AreFew}
use Rattle.part_read.proofs.layers.layers_listed.Given as goal

-- the layers so far, and what is left, give what all gives
abbrev pub invariant-loop-part : goal.invariant-loop-part
invariant-loop-part l = record {
  sets : gathered listed l.set (trees_left l.part-iterator) ≡ gathered listed no_layers (parts (tree_of l.list));
  few : AreFew l.set;
}
