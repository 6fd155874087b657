use Rattle.std.proofs.Common.{◌≡◌, ◌++◌, ◌+◌, ◌-◌}
use Rattle.sexpr_read.specs.Tree.{span, parts}
use Rattle.sexpr_read.specs.TreeViews.{tree_of, trees_left}
use Rattle.roundtrip_text.specs.RewrittenText.{edited}
use Rattle.board_write.specs.Settings.{grove, inside}
use Rattle.board_write.specs.Dispositions.{dispositions_by}
use Rattle.board_write.proofs.root.append_inside.Given as goal

-- what was written, and what is still to come, is all
abbrev pub invariant-loop-part : goal.invariant-loop-part
invariant-loop-part l =
    l.out.items ++ edited l.text l.from ((span (tree_of l.root)).end - 1) (dispositions_by l.units.marks.now l.units.spans.now (trees_left l.part-iterator)) (grove (trees_left l.part-iterator))
    ≡ l.initial.out.items ++ edited l.text ((span (tree_of l.root)).at + 1) ((span (tree_of l.root)).end - 1) (dispositions_by l.initial.units.marks.now l.initial.units.spans.now (parts (tree_of l.root))) (inside (tree_of l.root))
