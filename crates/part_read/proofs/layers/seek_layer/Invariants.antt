use Rattle.std.proofs.Common.{◌≡◌, drop}
use Rattle.sexpr_read.specs.TreeViews.{tree_of}
use Rattle.copper_layers.specs.Layers.{layer_names}
use Rattle.std.specs.List.{position_from}
use Rattle.list_read.specs.ListHeads.{is_text}
use Rattle.part_read.proofs.layers.seek_layer.Given as goal

-- the name is sought among the names that are left
abbrev pub invariant-loop-layer : goal.invariant-loop-layer
invariant-loop-layer l = position_from (is_text (tree_of l.atom)) l.layer (drop l.layer layer_names) ≡ position_from (is_text (tree_of l.atom)) 0 layer_names
