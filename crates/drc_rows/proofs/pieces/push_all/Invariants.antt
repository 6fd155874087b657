use Rattle.std.proofs.Common.{take, Ok}
use Rattle.std.specs.List.{flat_map}
use Rattle.drc_io.specs.declared.Failed.{Failed}
use Rattle.drc_rows.specs.Buffer.{Puts}
use Rattle.drc_rows.proofs.pieces.push_all.Given as goal

-- what has been passed is in the buffer
abbrev pub invariant-loop-piece : goal.invariant-loop-piece
invariant-loop-piece g l =
    Puts {T = Unit {0}} {E = Failed} (g.W.Sink.written l.initial.out) (g.W.Sink.written l.out) (g.W.Sink.faults l.initial.out) (g.W.Sink.faults l.out)
    l.initial.buffer (flat_map (λ p. p.now) (take l.piece-index l.pieces)) l.buffer (Ok tt)
