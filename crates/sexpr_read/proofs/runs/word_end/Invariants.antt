use Rattle.std.proofs.Common.{length, ◌-◌, ◌≡◌, ◌≤◌, true, ℕ, ◌<◌}
use Rattle.sexpr_read.specs.ByteClasses.{sign_of, is_word}
use Rattle.sexpr_read.proofs.runs.word_end.Given as goal

abbrev pub decreases-loop-end : goal.decreases-loop-end
decreases-loop-end l = length l.text - l.end

-- so far each byte is a word's
abbrev pub invariant-loop-end : goal.invariant-loop-end
invariant-loop-end l = ((i : ℕ) → l.at ≤ i → i < l.end → is_word (sign_of l.text i) ≡ true) × (l.at < l.end) × (l.end ≤ length l.text)
