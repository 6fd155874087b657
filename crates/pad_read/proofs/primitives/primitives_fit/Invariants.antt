use Rattle.std.proofs.Common.{◌≡◌, drop}
use Rattle.pad_read.specs.CustomPads.{primitives_fit}
use Rattle.pad_read.proofs.primitives.primitives_fit.Given as goal

-- the drawings that are left decide
abbrev pub invariant-loop-drawing : goal.invariant-loop-drawing
invariant-loop-drawing l = primitives_fit (drop l.drawing-index l.drawings) ≡ primitives_fit l.drawings
