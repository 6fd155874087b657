use Rattle.std.proofs.Common.{◌-◌, length, min}
use Rattle.drc_rows.specs.Buffer.{AreOwn}
use Rattle.drc_rows.proofs.pieces.is_long_plain.Given as goal

-- what has been passed stands for itself
abbrev pub invariant-step : goal.invariant-step
invariant-step l = AreOwn l.name 0 (min l.at (length l.name))

abbrev pub decreases-step : goal.decreases-step
decreases-step l = length l.name - l.at
