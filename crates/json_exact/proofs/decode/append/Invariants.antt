use Rattle.std.proofs.Common.{length, drop, take, ◌-◌, ◌≤◌, ◌≡◌, ◌++◌}
use Rattle.json_exact.specs.Characters.{decoded}
use Rattle.json_exact.proofs.decode.append.Given as goal

abbrev pub invariant-characters : goal.invariant-characters
invariant-characters l =
    (l.i ≤ length l.raw) × (l.out.items ++ decoded (drop l.i l.raw) ≡ l.initial.out.items ++ decoded l.raw)
    × (take (length l.initial.out.items) l.out.items ≡ l.initial.out.items) × (length l.initial.out.items ≤ length l.out.items)

abbrev pub decreases-characters : goal.decreases-characters
decreases-characters l = length l.raw - l.i
