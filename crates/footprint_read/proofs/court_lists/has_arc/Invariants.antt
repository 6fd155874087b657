use Rattle.std.proofs.Common.{◌≡◌, codes}
use Rattle.std.specs.List.{list_any}
use Rattle.sexpr_read.specs.Tree.{parts}
use Rattle.sexpr_read.specs.TreeViews.{tree_of, trees_left}
use Rattle.list_read.specs.ListHeads.{has_head}
use Rattle.footprint_read.proofs.court_lists.has_arc.Given as goal

-- what is left decides
abbrev pub invariant-loop-part : goal.invariant-loop-part
invariant-loop-part l = list_any (has_head (codes "arc")) (trees_left l.part-iterator) ≡ list_any (has_head (codes "arc")) (parts (tree_of l.list))
