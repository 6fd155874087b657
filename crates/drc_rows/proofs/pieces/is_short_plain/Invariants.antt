use Rattle.std.proofs.Common.{◌≡◌, take}
use Rattle.drc_rows.specs.Buffer.{escaped}
use Rattle.drc_rows.proofs.pieces.is_short_plain.Given as goal

-- what has been passed stands for itself
abbrev pub invariant-loop-byte : goal.invariant-loop-byte
invariant-loop-byte l = escaped (take l.byte-index l.name) ≡ take l.byte-index l.name
