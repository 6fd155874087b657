use Rattle.std.proofs.Common.{◌≡◌, false}
use Rattle.drc_rows.specs.Buffer.{AreOwn}
use Rattle.drc_rows.proofs.pieces.is_step_odd.Given as goal

-- what has been passed stands for itself, unless some of it does not
abbrev pub invariant-loop-i : goal.invariant-loop-i
invariant-loop-i l = l.odd ≡ false → AreOwn l.step 0 l.i
