use Rattle.std.proofs.Common.{length, drop, ℕ, ◌<◌, ◌≤◌, ◌≡◌, ◌≢◌}
use Rattle.std.specs.Prelude.{slice_range}
use Rattle.json_exact.specs.Characters.{steps, whole}
use Rattle.json_exact.specs.Scans.{way_of}
use Rattle.json_exact.proofs.strings.row_end.Given as goal

abbrev pub invariant-row : goal.invariant-row
invariant-row l =
    (l.at ≤ l.i) × (l.i ≤ length l.text) × (steps (way_of l.row) (slice_range l.text l.at l.i) ≡ way_of (drop l.class-index l.row))
    × ((j : ℕ) → l.at ≤ j → j < l.i → steps (way_of l.row) (slice_range l.text l.at j) ≢ whole)
