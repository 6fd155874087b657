use Rattle.std.proofs.Common.{◌-◌}
use Rattle.ratsnest.proofs.nearest.+look.Given as goal

abbrev pub decreases-look : goal.decreases-look
decreases-look l = l.part.high - l.part.low
