use Rattle.std.proofs.Common.{◌≤◌, ◌-◌}
use Rattle.drc_outside.specs.FilePositions.{Passes}
use Rattle.drc_outside.proofs.files.pass_over.Given as goal

abbrev pub invariant-loop-left : goal.invariant-loop-left
invariant-loop-left g l = record {
  within : l.left ≤ l.count;
  passes : Passes (g.F.Read.remaining l.initial.file) (g.F.Read.remaining l.file) (l.count - l.left);
}

abbrev pub decreases-loop-left : goal.decreases-loop-left
decreases-loop-left g l = l.left
