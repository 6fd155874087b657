use Rattle.std.proofs.Common.{length, ◌-◌, ◌≡◌, ◌≤◌}
use Rattle.sexpr_read.specs.Comments.{comment, line_at, shown}
use Rattle.sexpr_read.specs.Spelling.{IsSpaceBetween}
use Rattle.sexpr_read.proofs.comments.comment_end.Given as goal

abbrev pub invariant-loop-end : goal.invariant-loop-end
invariant-loop-end l = record {
  gap : IsSpaceBetween (shown l.text) l.at l.end;
  within : l.end ≤ length l.text;
  line : line_at l.text l.end ≡ comment;
}

abbrev pub decreases-loop-end : goal.decreases-loop-end
decreases-loop-end l = length l.text - l.end
