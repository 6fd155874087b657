-- What the parts that are left give decides.
use Rattle.std.proofs.Common.{◌≡◌, map}
use Rattle.std.proofs.Math.ListN.{drop}
use Rattle.std.specs.Option.{option_copied}
use Rattle.cond_lang.specs.Trees.{cond_tree_of, trees_of}
use Rattle.rule_pick.specs.Meaning.{some_hold, all_hold}
use Rattle.rule_pick.proofs.meaning.+holds.Given as goal

abbrev pub invariant-loop-part : goal.invariant-loop-part
invariant-loop-part l = some_hold (trees_of (map cond_tree_of l.part-items)) l.a (option_copied l.b) ≡ some_hold (trees_of (map cond_tree_of (drop l.part-index l.part-items))) l.a (option_copied l.b)

abbrev pub invariant-loop-part-2 : goal.invariant-loop-part-2
invariant-loop-part-2 l = all_hold (trees_of (map cond_tree_of l.part-items)) l.a (option_copied l.b) ≡ all_hold (trees_of (map cond_tree_of (drop l.part-index l.part-items))) l.a (option_copied l.b)
