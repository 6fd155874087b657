use Rattle.std.proofs.Common.{◌≡◌, map, drop, ◌++◌}
use Rattle.cond_lang.specs.Trees.{any, all, cond_tree_of, trees_of}
use Rattle.cond_lang.proofs.cond.Cond.+copy.Given as goal

abbrev pub invariant-loop-part : goal.invariant-loop-part
invariant-loop-part l = cond_tree_of l.self ≡ any (trees_of (map cond_tree_of l.list.items ++ map cond_tree_of (drop l.part-index l.part-items)))

abbrev pub invariant-loop-part-2 : goal.invariant-loop-part-2
invariant-loop-part-2 l = cond_tree_of l.self ≡ all (trees_of (map cond_tree_of l.list.items ++ map cond_tree_of (drop l.part-index l.part-items)))
