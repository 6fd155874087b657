use Rattle.std.proofs.Common.{◌≡◌}
use Rattle.std.specs.Prelude.{find}
use Rattle.sexpr_read.specs.Tree.{parts}
use Rattle.sexpr_read.specs.TreeViews.{tree_of, trees_left}
use Rattle.footprint_read.specs.FootHead.{says}
use Rattle.footprint_read.proofs.head.find_saying.Given as goal

-- the first among those that are left is the first of all
abbrev pub invariant-loop-part : goal.invariant-loop-part
invariant-loop-part l = find (says l.head l.word) (trees_left l.part-iterator) ≡ find (says l.head l.word) (parts (tree_of l.node))
