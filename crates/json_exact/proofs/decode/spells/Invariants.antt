use Rattle.std.proofs.Common.{length, drop, ◌-◌, ◌≤◌, ◌≡◌}
use Rattle.json_exact.specs.Characters.{decoded}
use Rattle.json_exact.specs.ByteComparisons.{same_bytes}
use Rattle.json_exact.proofs.decode.spells.Given as goal

abbrev pub invariant-characters : goal.invariant-characters
invariant-characters l =
    (l.i ≤ length l.raw) × (l.j ≤ length l.name) × (same_bytes (decoded l.raw) l.name ≡ same_bytes (decoded (drop l.i l.raw)) (drop l.j l.name))

abbrev pub decreases-characters : goal.decreases-characters
decreases-characters l = length l.raw - l.i
