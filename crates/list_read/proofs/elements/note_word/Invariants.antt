use Rattle.std.proofs.Common.{◌≡◌, map, take, drop, ◌++◌, option_map}
use Rattle.sexpr_read.specs.TreeViews.{tree_of}
use Rattle.list_read.specs.ListWalk.{noted}
use Rattle.list_read.proofs.elements.note_word.Given as goal

-- up to k the part is noted, and from there on all is as it was
abbrev pub invariant-loop-k : goal.invariant-loop-k
invariant-loop-k l =
    map (option_map tree_of) l.found
    ≡ noted (tree_of l.part) (tree_of l.first) (take l.k l.wanted) (take l.k (map (option_map tree_of) l.fn.found)) ++ drop l.k (map (option_map tree_of) l.fn.found)
