use Rattle.std.proofs.Common.{◌≡◌}
use Rattle.std.specs.Prelude.{find}
use Rattle.sexpr_read.specs.Tree.{parts}
use Rattle.sexpr_read.specs.TreeViews.{tree_of, trees_left}
use Rattle.list_read.specs.NamedElements.{is_naming}
use Rattle.list_read.proofs.elements.naming.Given as goal

-- the first among those that are left is the first of all
abbrev pub invariant-loop-part : goal.invariant-loop-part
invariant-loop-part l = find is_naming (trees_left l.part-iterator) ≡ find is_naming (parts (tree_of l.node))
