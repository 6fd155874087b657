use Rattle.std.proofs.Common.{◌≡◌, find, drop}
use Rattle.sexpr_read.specs.TreeViews.{tree_of}
use Rattle.rule_text.specs.RuleLimits.{constrained_kinds, is_name_of, kind_named}
use Rattle.rule_text.proofs.constraints.kind_named.Given as goal

-- the first among those that are left is the first of all
abbrev pub invariant-loop-kind : goal.invariant-loop-kind
invariant-loop-kind l = find (is_name_of (tree_of l.atom)) (drop l.kind-index constrained_kinds) ≡ kind_named (tree_of l.atom)
