use Rattle.std.proofs.Common.{take, Ok}
use Rattle.drc_io.specs.declared.Failed.{Failed}
use Rattle.drc_rows.specs.Buffer.{Puts, escaped}
use Rattle.drc_rows.proofs.pieces.push_bytes.Given as goal

-- what has been passed is in the buffer
abbrev pub invariant-loop-byte : goal.invariant-loop-byte
invariant-loop-byte g l =
    Puts {T = Unit {0}} {E = Failed} (g.W.Sink.written l.initial.out) (g.W.Sink.written l.out) (g.W.Sink.faults l.initial.out) (g.W.Sink.faults l.out)
    l.initial.buffer (escaped (take l.byte-index l.name)) l.buffer (Ok tt)
