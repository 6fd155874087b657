use Rattle.std.proofs.Common.{◌≡◌, ◌++◌, map}
use Rattle.footprint_read.specs.Courtyards.{outline_part}
use Rattle.footprint_read.proofs.courts.append_outlines.Given as goal

-- the outlines so far stand behind the others
abbrev pub invariant-loop-poly : goal.invariant-loop-poly
invariant-loop-poly l = l.parts.items ≡ l.initial.parts.items ++ map outline_part l.yielded
