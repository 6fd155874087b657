use Rattle.std.proofs.Common.{◌≡◌, drop}
use Rattle.std.specs.List.{list_all}
use Rattle.footprint_read.specs.Courtyards.{is_met, is_closed}
use Rattle.footprint_read.proofs.closing.all_met.Given as goal

-- the lines that are left decide
abbrev pub invariant-loop-line : goal.invariant-loop-line
invariant-loop-line l = list_all (is_met l.lines) (drop l.line-index l.lines) ≡ is_closed l.lines
