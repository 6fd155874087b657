use Rattle.std.proofs.Common.{◌≡◌, ℕ, ◌<◌, get_or, None}
use Rattle.list_read.proofs.elements.clear.Given as goal

abbrev pub invariant-loop-place : goal.invariant-loop-place
invariant-loop-place l = (k : ℕ) → k < l.place-index → get_or l.found k None ≡ None
