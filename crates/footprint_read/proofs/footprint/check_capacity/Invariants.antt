use Rattle.std.proofs.Common.{◌≡◌, drop}
use Rattle.footprint_read.specs.FootprintOf.{with_reserved}
use Rattle.footprint_read.proofs.footprint.check_capacity.Given as goal

-- what is left decides, since there is room for those before
abbrev pub invariant-loop-i : goal.invariant-loop-i
invariant-loop-i l = with_reserved l.board l.unit l.i (drop l.i l.all) ≡ with_reserved l.board l.unit 0 l.all
