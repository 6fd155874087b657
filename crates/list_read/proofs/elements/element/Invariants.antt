use Rattle.std.proofs.Common.{◌≡◌}
use Rattle.std.specs.Prelude.{find}
use Rattle.sexpr_read.specs.Tree.{parts}
use Rattle.sexpr_read.specs.TreeViews.{tree_of, trees_left}
use Rattle.list_read.specs.ListHeads.{has_head}
use Rattle.list_read.proofs.elements.element.Given as goal

-- the first among those that are left is the first of all
abbrev pub invariant-loop-part : goal.invariant-loop-part
invariant-loop-part l = find (has_head l.head) (trees_left l.part-iterator) ≡ find (has_head l.head) (parts (tree_of l.node))
