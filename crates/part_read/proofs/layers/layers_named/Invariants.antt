use Rattle.std.proofs.Common.{◌≡◌, IsTrue}
use Rattle.sexpr_read.specs.Tree.{parts}
use Rattle.sexpr_read.specs.TreeViews.{tree_of, trees_left}
use Rattle.copper_layers.specs.Layers.{is_within}
use Rattle.part_read.specs.BoardLayers.{named}
use Rattle.part_read.proofs.Layering.{no_layers, gathered}
use Rattle.part_read.proofs.layers.layers_named.Given as goal

-- the layers so far, and what is left, give what all gives; they are layers of the board
abbrev pub invariant-loop-part : goal.invariant-loop-part
invariant-loop-part l = record {
  sets : gathered (named l.copper) l.set (trees_left l.part-iterator) ≡ gathered (named l.copper) no_layers (parts (tree_of l.list));
  on : IsTrue (is_within l.set l.copper);
}
