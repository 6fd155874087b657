use Rattle.std.proofs.Common.{length, ◌-◌, ◌≡◌, ◌≤◌, true, ℕ, ◌<◌}
use Rattle.sexpr_read.specs.ByteClasses.{sign_of, is_itself}
use Rattle.sexpr_read.proofs.byte_lanes.itself_end.Given as goal

abbrev pub decreases-steps : goal.decreases-steps
decreases-steps l = length l.text - l.end

-- so far each byte stands for itself
abbrev pub invariant-steps : goal.invariant-steps
invariant-steps l = ((i : ℕ) → l.from ≤ i → i < l.end → is_itself (sign_of l.text i) ≡ true) × (l.from ≤ l.end) × (l.end ≤ length l.text)
