use Rattle.std.proofs.Common.{◌≡◌}
use Rattle.std.specs.Prelude.{find}
use Rattle.sexpr_read.specs.Tree.{parts, is_list}
use Rattle.sexpr_read.specs.TreeViews.{tree_of, trees_left}
use Rattle.pcb_read.proofs.root.first_list.Given as goal

-- the first among those that are left is the first of all
abbrev pub invariant-loop-part : goal.invariant-loop-part
invariant-loop-part l = find is_list (trees_left l.part-iterator) ≡ find is_list (parts (tree_of l.node))
