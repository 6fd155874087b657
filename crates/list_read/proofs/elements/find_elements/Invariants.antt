use Rattle.std.proofs.Common.{◌≡◌, map, option_map}
use Rattle.sexpr_read.specs.TreeViews.{tree_of, trees_left}
use Rattle.list_read.specs.Wanted.{found_in}
use Rattle.list_read.proofs.Walks.{completed}
use Rattle.list_read.proofs.elements.find_elements.Given as goal

-- what is found so far, completed by what is left, is what all gives
abbrev pub invariant-loop-part : goal.invariant-loop-part
invariant-loop-part l = completed (trees_left l.part-iterator) l.wanted (map (option_map tree_of) l.found) ≡ map (found_in (tree_of l.node)) l.wanted
