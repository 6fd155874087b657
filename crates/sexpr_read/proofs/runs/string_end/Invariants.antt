use Rattle.std.proofs.Common.{length, ◌-◌, ◌≤◌}
use Rattle.sexpr_read.specs.ByteClasses.{sign_of}
use Rattle.sexpr_read.specs.Spelling.{IsContent}
use Rattle.sexpr_read.proofs.runs.string_end.Given as goal

abbrev pub decreases-loop-end : goal.decreases-loop-end
decreases-loop-end l = length l.text - l.end

abbrev pub invariant-loop-end : goal.invariant-loop-end
invariant-loop-end l = IsContent (sign_of l.text) l.at l.end × (l.at ≤ l.end) × (l.end ≤ length l.text)
