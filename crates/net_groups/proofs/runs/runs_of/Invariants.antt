use Rattle.std.proofs.Common.{◌≡◌, length}
use Rattle.net_groups.specs.ItemBoxes.{AreBoxRuns}
use Rattle.net_groups.proofs.runs.runs_of.Given as goal

abbrev pub invariant-loop-run : goal.invariant-loop-run
invariant-loop-run l = record { many : length l.runs.items ≡ l.run; each : AreBoxRuns l.item_boxes l.runs.items }
