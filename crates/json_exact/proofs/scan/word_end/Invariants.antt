use Rattle.std.proofs.Common.{length, take, ◌+◌, ◌≤◌, ◌≡◌}
use Rattle.std.specs.Prelude.{slice_range}
use Rattle.json_exact.proofs.scan.word_end.Given as goal

abbrev pub invariant-letters : goal.invariant-letters
invariant-letters l = (l.i ≡ l.at + l.letter-index) × (l.i ≤ length l.text) × (slice_range l.text l.at l.i ≡ take l.letter-index l.word)
