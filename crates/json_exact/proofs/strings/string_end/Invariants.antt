use Rattle.std.proofs.Common.{length, ◌-◌, ◌≤◌}
use Rattle.std.specs.Prelude.{slice_range}
use Rattle.json_exact.specs.Characters.{AreCharacters}
use Rattle.json_exact.proofs.strings.string_end.Given as goal

abbrev pub invariant-characters : goal.invariant-characters
invariant-characters l = (l.at ≤ l.i) × (l.i ≤ length l.text) × AreCharacters (slice_range l.text l.at l.i)

abbrev pub decreases-characters : goal.decreases-characters
decreases-characters l = length l.text - l.i
