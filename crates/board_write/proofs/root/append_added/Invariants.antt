use Rattle.std.proofs.Common.{◌≡◌, ◌++◌, false, drop}
use Rattle.roundtrip_text.specs.RewrittenText.{spaced}
use Rattle.board_write.specs.Dispositions.{added_by}
use Rattle.board_write.proofs.root.append_added.Given as goal

-- what was written, and what is still to come, is all
abbrev pub invariant-loop-one : goal.invariant-loop-one
invariant-loop-one l = l.out.items ++ spaced false (added_by l.marks (drop l.one-index l.added)) ≡ l.initial.out.items ++ spaced false (added_by l.marks l.added)
