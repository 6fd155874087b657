use Rattle.std.proofs.Common.{◌≡◌, ◌||◌}
use Rattle.std.specs.List.{list_any}
use Rattle.sexpr_read.specs.Tree.{parts}
use Rattle.sexpr_read.specs.TreeViews.{tree_of, trees_left}
use Rattle.list_read.specs.ListHeads.{is_text}
use Rattle.list_read.proofs.heads.has_words.Given as goal

-- each word was found, or stands among those that are left, exactly where it stands in the list
abbrev pub invariant-loop-part : goal.invariant-loop-part
invariant-loop-part l = ((l.has_first || list_any (λ t. is_text t l.first) (trees_left l.part-iterator)) ≡ list_any (λ t. is_text t l.first) (parts (tree_of l.list)))
    × ((l.has_second || list_any (λ t. is_text t l.second) (trees_left l.part-iterator)) ≡ list_any (λ t. is_text t l.second) (parts (tree_of l.list)))
