use Rattle.std.proofs.Common.{length, ◌-◌, ◌≤◌}
use Rattle.std.specs.Prelude.{slice_range}
use Rattle.json_exact.specs.JsonText.{AreBlanks}
use Rattle.json_exact.proofs.scan.blanks_end.Given as goal

abbrev pub invariant-blanks : goal.invariant-blanks
invariant-blanks l = (l.at ≤ l.i) × (l.i ≤ length l.text) × AreBlanks (slice_range l.text l.at l.i)

abbrev pub decreases-blanks : goal.decreases-blanks
decreases-blanks l = length l.text - l.i
