use Rattle.std.proofs.Common.{◌-◌}
use Rattle.ratsnest.proofs.tree.+put_together.Given as goal

abbrev pub decreases-put_together : goal.decreases-put_together
decreases-put_together l = l.high - l.low
