use Rattle.std.proofs.Common.{length, ◌-◌}
use Rattle.json_exact.specs.JsonRests.{Reads}
use Rattle.json_exact.proofs.reader.read.Given as goal

abbrev pub invariant-reading : goal.invariant-reading
invariant-reading l = Reads l.text l.reader l.next

abbrev pub decreases-reading : goal.decreases-reading
decreases-reading l = length l.text - l.reader.at
