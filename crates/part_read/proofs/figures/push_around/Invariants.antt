use Rattle.std.proofs.Common.{◌≡◌, ◌++◌}
use Rattle.part_read.specs.Figures.{parts_around}
use Rattle.part_read.proofs.figures.push_around.Given as goal

-- the parts of the cores so far stand behind the old ones
abbrev pub invariant-loop-core : goal.invariant-loop-core
invariant-loop-core l = l.list.items ≡ l.initial.list.items ++ parts_around l.layers l.radius l.yielded
