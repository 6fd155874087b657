use Rattle.std.proofs.Common.{length, ◌-◌, ◌≡◌, ◌≤◌, ◌<◌}
use Rattle.sexpr_read.specs.Comments.{line_at, shown}
use Rattle.sexpr_read.specs.Spelling.{IsSpaceBetween}
use Rattle.sexpr_read.specs.ReaderProgress.{line_of}
use Rattle.sexpr_read.proofs.comments.comments_end.Given as goal

abbrev pub invariant-gap : goal.invariant-gap
invariant-gap l = record {
  gap : IsSpaceBetween (shown l.text) l.at l.end;
  within : l.end ≤ length l.text;
  line : l.end < length l.text → line_at l.text l.end ≡ line_of l.blank;
}

abbrev pub decreases-gap : goal.decreases-gap
decreases-gap l = length l.text - l.end
