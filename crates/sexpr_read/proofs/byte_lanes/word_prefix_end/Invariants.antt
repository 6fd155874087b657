use Rattle.std.proofs.Common.{length, ◌-◌, ◌≡◌, ◌≤◌, true, ℕ, ◌<◌}
use Rattle.sexpr_read.specs.ByteClasses.{sign_of, is_word}
use Rattle.sexpr_read.proofs.byte_lanes.word_prefix_end.Given as goal

abbrev pub decreases-steps : goal.decreases-steps
decreases-steps l = length l.text - l.end

-- so far each byte is a word's
abbrev pub invariant-steps : goal.invariant-steps
invariant-steps l = ((i : ℕ) → l.from ≤ i → i < l.end → is_word (sign_of l.text i) ≡ true) × (l.from ≤ l.end) × (l.end ≤ length l.text)
