use Rattle.std.proofs.Common.{length, ◌-◌, ◌≤◌, ◌≡◌, ◌≢◌}
use Rattle.std.specs.Prelude.{slice_range}
use Rattle.json_exact.specs.Scans.{written}
use Rattle.json_exact.specs.declared.scan.Last.TheVariants.{Nothing, Misplaced}
use Rattle.json_exact.proofs.scan.number_end.Given as goal

abbrev pub invariant-digits : goal.invariant-digits
invariant-digits l = (l.at ≤ l.i) × (l.i ≤ length l.text) × (written Nothing (slice_range l.text l.at l.i) ≡ l.last) × (l.last ≢ Misplaced)

abbrev pub decreases-digits : goal.decreases-digits
decreases-digits l = length l.text - l.i
